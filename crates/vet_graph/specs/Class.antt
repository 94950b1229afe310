-- The class of a version for a criterion (ours): the first of five that applies.
use Rattle.std.specs.Prelude.{◌≡◌, ℕ, true, List, MatchOption, codes}
use Rattle.vet_base.specs.Criteria.{place_of}
use Rattle.vet_base.specs.Version.{VersionValue}
use Rattle.vet_base.specs.Words.{Text}
use Rattle.vet_demand.specs.declared.pair.Pair.{Pair}
use Rattle.vet_entries.specs.Condemned.{is_condemned}
use Rattle.vet_entries.specs.Facts.{Facts}
use Rattle.vet_entries.specs.Step.{steps_of}
use Rattle.vet_entries.specs.declared.step.Step.{Step}
use Rattle.vet_graph.specs.declared.class.Class.{Class}
use Rattle.vet_graph.specs.declared.class.Class.TheVariants.{Conflicting, Full, Partial, Exempted, Unvetted}
use Rattle.vet_graph.specs.Chain.{Condemned, EndsReviewed, HasChain, HasCleanChain, HasNoExempt, IsAny}

-- the version is condemned, and some chain leads to it, clean or not
abbrev pub IsConflicting : List Step → Condemned → ℕ → VersionValue → Type 0
IsConflicting steps condemned c v = (condemned c v ≡ true) × HasChain steps c v

-- some clean chain has no exempt step
abbrev pub IsFull : List Step → Condemned → ℕ → VersionValue → Type 0
IsFull steps condemned c v = HasCleanChain steps condemned c v HasNoExempt

-- some clean chain ends in a step that is not exempt
abbrev pub IsPartial : List Step → Condemned → ℕ → VersionValue → Type 0
IsPartial steps condemned c v = HasCleanChain steps condemned c v EndsReviewed

-- some clean chain leads to it
abbrev pub IsExempted : List Step → Condemned → ℕ → VersionValue → Type 0
IsExempted steps condemned c v = HasCleanChain steps condemned c v IsAny

-- the class is the first that applies
abbrev pub IsClass : List Step → Condemned → ℕ → VersionValue → Class → Type 0
IsClass steps condemned c v Conflicting = IsConflicting steps condemned c v
IsClass steps condemned c v Full = ¬ IsConflicting steps condemned c v × IsFull steps condemned c v
IsClass steps condemned c v Partial =
    ¬ IsConflicting steps condemned c v × ¬ IsFull steps condemned c v × IsPartial steps condemned c v
IsClass steps condemned c v Exempted =
    ¬ IsConflicting steps condemned c v × ¬ IsFull steps condemned c v × ¬ IsPartial steps condemned c v
    × IsExempted steps condemned c v
IsClass steps condemned c v Unvetted =
    ¬ IsConflicting steps condemned c v × ¬ IsFull steps condemned c v × ¬ IsPartial steps condemned c v
    × ¬ IsExempted steps condemned c v

-- the class of a pair by these facts: the class that the steps and condemned versions of its package give its version
-- at the place of its criterion; nothing vouches for a criterion that has no place in the table
abbrev pub IsClassOfPair : Facts → Pair → Class → Type 0
IsClassOfPair facts p class =
    MatchOption (place_of facts.criteria p.criterion) (class ≡ Unvetted)
    (λ place. IsClass (steps_of facts p.«package») (is_condemned facts p.«package») place p.version class)

-- the word of a class: its name in lower case
abbrev pub class_word : Class → Text
class_word Conflicting = codes "conflicting"
class_word Full = codes "full"
class_word Partial = codes "partial"
class_word Exempted = codes "exempted"
class_word Unvetted = codes "unvetted"
