-- The class of each demanded pair, by chains of the entries' steps (ours).
use Rattle.std.specs.Prelude.{◌≡◌, List, MatchOption, Option, map}
use Rattle.std.specs.Option.{option_map_or}
use Rattle.std.specs.List.{Contains}
use Rattle.vet_base.specs.Criteria.{Criteria, place_of}
use Rattle.vet_base.specs.Words.{Name}
use Rattle.vet_demand.specs.declared.pair.Pair.{Pair}
use Rattle.vet_entries.specs.Condemned.{is_condemned}
use Rattle.vet_entries.specs.Facts.{Facts}
use Rattle.vet_entries.specs.declared.step.Step.{Step}
use Rattle.vet_entries.specs.Step.{steps_of}
use Rattle.vet_graph.specs.Chain.{Condemned}
use Rattle.vet_graph.specs.Class.{IsClassOfPair}
use Rattle.vet_graph.specs.ClassAt.{class_at}
use Rattle.vet_graph.specs.Standing.{class_in}
use Rattle.vet_graph.specs.declared.class.Class.{Class}
use Rattle.vet_graph.specs.declared.class.Class.TheVariants.{Unvetted}
use Rattle.vet_graph.specs.declared.standing.Stand.{Stand}

-- the condemned versions of a package
abbrev pub condemned_of : Facts → Name → Condemned
condemned_of facts name = is_condemned facts name

-- the class of a pair by its package's steps and condemned versions; nothing vouches for a criterion that the table
-- lacks
abbrev pub class_by : Criteria → List Step → Condemned → Pair → Class
class_by criteria steps condemned p = option_map_or (λ place. class_at steps condemned place p.version)
    (place_of criteria p.criterion) Unvetted

-- the class of a pair by these facts
abbrev pub class_of_pair : Facts → Pair → Class
class_of_pair facts p = class_by facts.criteria (steps_of facts p.«package») (condemned_of facts p.«package») p

-- the standing: each demanded pair with its class, in the order of the pairs
abbrev pub standing_of : Facts → List Pair → List Stand
standing_of facts demand = map (λ p. record { pair = p; class = class_of_pair facts p }) demand

-- each class by these facts is Unvetted
abbrev pub NoneIsVetted : Facts → Type 0
NoneIsVetted facts = (p : Pair) → class_of_pair facts p ≡ Unvetted

-- the class of each pair by any facts applies
abbrev pub PairClassHolds : Type 0
PairClassHolds = (facts : Facts) (p : Pair) → IsClassOfPair facts p (class_of_pair facts p)

-- this is true of no other class of a pair
abbrev pub PairClassIsOnly : Type 0
PairClassIsOnly = (facts : Facts) (p : Pair) (k : Class) → IsClassOfPair facts p k → k ≡ class_of_pair facts p

-- the answer for a pair is its class, or none if it is not demanded
abbrev pub StandsAt : Facts → List Pair → Pair → Option Class → Type 0
StandsAt facts demand p answer = MatchOption answer (¬ Contains demand p)
    (λ class. Contains demand p × IsClassOfPair facts p class)

-- the standing of a demand gives each pair its class, or none if it is not demanded
abbrev pub PairsStandAtTheirClass : Type 0
PairsStandAtTheirClass = (facts : Facts) (demand : List Pair) (p : Pair)
    → StandsAt facts demand p (class_in (standing_of facts demand) p)
