-- The pairs with the names so far.
use Rattle.vet_demand.specs.Collected.{AddsInOrder}
use Rattle.vet_demand.proofs.demand_of.add_node.Given as goal

abbrev pub invariant-names : goal.invariant-names
invariant-names l = AddsInOrder l.node l.names l.needs l.place l.fn.pairs.items l.pairs.items
