-- The classes in each state that commands lead to (ours).
use Rattle.std.specs.Prelude.{◌≡◌, length}
use Rattle.vet_demand.specs.DemandOf.{IsLeastDemand}
use Rattle.vet_demand.specs.declared.pair.Pair.{Pair}
use Rattle.vet_graph.specs.Standing.{class_in, counts_of, total_of}
use Rattle.vet_graph.specs.StandingOf.{StandsAt}
use Rattle.vet_register.specs.State.{State, demanded, standing}

-- exactly the demanded pairs have a class, the one that chains of the entries' steps give them; and the demand is the
-- least
pub record HasClassesOfChains (s : State) : Type 0 where
  pub classes : (pair : Pair) → StandsAt s.held.facts (demanded s) pair (class_in (standing s) pair)
  pub demand : IsLeastDemand s.held.projects s.held.policies s.held.facts.criteria (demanded s)

-- the five classes together have as many pairs as are demanded
abbrev pub AddsUp : State → Type 0
AddsUp s = total_of (counts_of (standing s)) ≡ length (demanded s)
