-- The nodes so far at which the criterion stands.
use Rattle.vet_demand.specs.Spread.{AreStarts}
use Rattle.vet_demand.proofs.spread.starts.Given as goal

abbrev pub invariant-nodes : goal.invariant-nodes
invariant-nodes l = AreStarts l.place l.sets l.node l.reached.items
