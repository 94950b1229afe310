-- The nodes so far are reached, and what was reached stays.
use Rattle.std.proofs.Common.{◌≡◌, length, take}
use Rattle.vet_demand.specs.Spread.{Reaches}
use Rattle.vet_demand.proofs.spread.reach_all.Given as goal

abbrev pub invariant-nodes : goal.invariant-nodes
invariant-nodes l = record {
  count : length l.sets.items ≡ length l.fn.sets.items;
  kept : take (length l.fn.reached.items) l.reached.items ≡ l.fn.reached.items;
  reaches : Reaches l.place (take l.node-index l.nodes) l.fn.sets.items l.fn.reached.items l.sets.items l.reached.items;
}
