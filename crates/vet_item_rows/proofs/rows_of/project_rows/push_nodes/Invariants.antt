-- The rows that were there, and those of the nodes so far.
use Rattle.std.proofs.Common.{◌≡◌, ◌++◌, map, take}
use Rattle.vet_item_rows.specs.ProjectRows.{node_row}
use Rattle.vet_item_rows.proofs.rows_of.project_rows.push_nodes.Given as goal

abbrev pub invariant-nodes : goal.invariant-nodes
invariant-nodes l =
    l.rows.items ≡ l.initial.rows.items ++ map (node_row l.named.name) (take l.node-index l.named.project.nodes)
