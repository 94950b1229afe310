-- The class of a version as a function (ours): the first of five that applies, by decisions of questions on chains.
use Rattle.std.specs.Prelude.{◌≡◌, ℕ, List}
use Rattle.std.proofs.Common.{inl, inr}
use Rattle.vet_base.specs.Version.{VersionValue}
use Rattle.vet_entries.specs.declared.step.Step.{Step}
use Rattle.vet_graph.specs.declared.class.Class.{Class}
use Rattle.vet_graph.specs.declared.class.Class.TheVariants.{Conflicting, Full, Partial, Exempted, Unvetted}
use Rattle.vet_graph.specs.Chain.{Condemned, EndsReviewed, HasNoExempt, IsAny}
use Rattle.vet_graph.specs.ChainDecisions.{conflicting, ends_reviewed, no_exempt, some_clean_chain}
use Rattle.vet_graph.specs.Class.{IsClass}
use Rattle.vet_graph.specs.Decisions.{Answer}

-- the first of the classes that applies
unfoldable pub first_of : {A B C D : Type 0} → Answer A → Answer B → Answer C → Answer D → Class
first_of (inl a) q r s = Conflicting
first_of (inr a) (inl b) r s = Full
first_of (inr a) (inr b) (inl c) s = Partial
first_of (inr a) (inr b) (inr c) (inl d) = Exempted
first_of (inr a) (inr b) (inr c) (inr d) = Unvetted

-- the class of version v for criterion c
unfoldable pub class_at : List Step → Condemned → ℕ → VersionValue → Class
class_at steps condemned c v =
    first_of (conflicting steps condemned c v) (some_clean_chain steps condemned c v HasNoExempt no_exempt)
    (some_clean_chain steps condemned c v EndsReviewed ends_reviewed)
    (some_clean_chain steps condemned c v IsAny (λ _. inl tt))

-- the class of a version applies, and those before it do not
abbrev pub ClassHolds : Type 0
ClassHolds = (steps : List Step) (condemned : Condemned) (c : ℕ) (v : VersionValue)
    → IsClass steps condemned c v (class_at steps condemned c v)

-- this is true of no other class
abbrev pub ClassIsOnly : Type 0
ClassIsOnly = (steps : List Step) (condemned : Condemned) (c : ℕ) (v : VersionValue) (k : Class)
    → IsClass steps condemned c v k → k ≡ class_at steps condemned c v
