-- The edges so far are listed, and the rest are left.
use Rattle.std.proofs.Common.{◌≡◌, ◌++◌}
use Rattle.vet_demand.proofs.placing.edge_list.Given as goal

abbrev pub invariant-edges : goal.invariant-edges
invariant-edges l = l.list.items ++ l.edge-iterator ≡ l.fn.edges.keys
