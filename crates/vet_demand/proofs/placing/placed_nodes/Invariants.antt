-- The nodes so far are at their places.
use Rattle.std.specs.BTreeMap.{get}
use Rattle.std.specs.Ordering.{nat_cmp}
use Rattle.vet_demand.proofs.PlacingLemmas.{ArePlaced}
use Rattle.vet_demand.proofs.placing.placed_nodes.Given as goal

abbrev pub invariant-nodes : goal.invariant-nodes
invariant-nodes l = ArePlaced l.fn.nodes.keys l.numbered-iterator l.placed.nodes.items (get nat_cmp l.placed.places)
