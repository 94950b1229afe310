-- The steps so far turned around, behind the one with which a walk begins.
use Rattle.std.proofs.Common.{◌≡◌, take}
use Rattle.vet_graph.specs.Leading.{turned_steps}
use Rattle.vet_graph.specs.Search.{steps_in}
use Rattle.vet_graph.proofs.leading.turned_steps.Given as goal

abbrev pub invariant-steps : goal.invariant-steps
invariant-steps l = steps_in l.turned.items ≡ turned_steps l.place l.version (take l.step-index l.steps)
