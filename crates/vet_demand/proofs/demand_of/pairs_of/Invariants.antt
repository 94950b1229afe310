-- The pairs of the nodes so far.
use Rattle.std.proofs.Common.{◌↔◌, take}
use Rattle.std.specs.List.{Contains}
use Rattle.vet_demand.specs.Audited.{IsAsked, audited_list}
use Rattle.vet_demand.specs.Pair.{IsInOrder}
use Rattle.vet_demand.specs.declared.pair.Pair.{Pair}
use Rattle.vet_demand.proofs.demand_of.pairs_of.Given as goal

abbrev pub invariant-nodes : goal.invariant-nodes
invariant-nodes l = record {
  in_order : IsInOrder l.pairs.items;
  same : (q : Pair) → Contains l.pairs.items q ↔ IsAsked l.names (take l.place (audited_list l.audited)) q;
}
