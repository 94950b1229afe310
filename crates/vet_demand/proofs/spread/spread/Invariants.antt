-- What is reached, and that the nodes so far lead into it.
use Rattle.std.proofs.Common.{◌≤◌, ◌-◌, length}
use Rattle.vet_demand.specs.Spread.{IsDone, IsReaching, lists_in}
use Rattle.vet_demand.proofs.spread.spread.Given as goal

abbrev pub invariant-nodes : goal.invariant-nodes
invariant-nodes l = record {
  reaching : IsReaching l.place (lists_in l.onward) l.fn.sets.items l.sets.items l.reached.items;
  in_range : l.next ≤ length l.reached.items;
  done : IsDone (lists_in l.onward) l.reached.items l.next;
}

abbrev pub decreases-nodes : goal.decreases-nodes
decreases-nodes l = length l.fn.sets.items - l.next
