-- What is kept of a package from one change to the next (ours).
use Rattle.std.specs.Prelude.{◌≡◌, Bool, List, length, map, take, true}
use Rattle.vet_entries.specs.Condemned.{condemned_by}
use Rattle.vet_base.specs.Criteria.{Criteria}
use Rattle.vet_demand.specs.declared.pair.Pair.{Pair}
use Rattle.vet_entries.specs.declared.step.Step.{Step}
use Rattle.vet_graph.specs.Chain.{Condemned}
use Rattle.vet_graph.specs.declared.standing.Stand.{Stand}
use Rattle.vet_graph.specs.StandingOf.{class_by}
use Rattle.vet_masks.specs.declared.kept.KeptPackage.{KeptPackage}
use Rattle.vet_masks.specs.Classes.{AreClasses, AreJudged}

-- this is kept of a package with these steps and condemned versions
pub record IsKept (steps : List Step) (condemned : Condemned) (k : KeptPackage) : Type 0 where
  pub classes : AreClasses steps condemned k.classes
  pub violations : condemned_by k.violations.items ≡ condemned

-- a package has grown: its steps are those that are kept and then none or more, and each version that the kept ones
-- name, origins too, is condemned for the same criteria
pub record IsGrown (steps : List Step) (condemned : Condemned) (k : KeptPackage) : Type 0 where
  pub first : take (length k.classes.looks.steps) steps ≡ k.classes.looks.steps
  pub judged : AreJudged k.classes.index condemned k.classes.condemned.items

-- what is kept of a package goes on: the table of criteria is the same, and the package has grown
abbrev pub GoesOn : Bool → List Step → Condemned → KeptPackage → Type 0
GoesOn same_criteria steps condemned k = (same_criteria ≡ true) × IsGrown steps condemned k

-- pairs with their classes, by their package's steps and condemned versions
abbrev pub stands_by : Criteria → List Step → Condemned → List Pair → List Stand
stands_by criteria steps condemned pairs =
    map (λ p. record { pair = p; class = class_by criteria steps condemned p }) pairs
