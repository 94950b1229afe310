-- The pairs so far have their classes.
use Rattle.std.proofs.Common.{◌≡◌, List, take}
use Rattle.vet_entries.specs.declared.step.Step.{Step}
use Rattle.vet_graph.specs.Chain.{Condemned}
use Rattle.vet_masks.specs.Kept.{IsKept, stands_by}
use Rattle.vet_masks.proofs.kept.KeptPackage.stands.Given as goal

abbrev pub invariant-pairs : goal.invariant-pairs
invariant-pairs l = (steps : List Step) (condemned : Condemned) → IsKept steps condemned l.self
    → l.stands.items ≡ stands_by l.criteria steps condemned (take l.place l.pairs)
