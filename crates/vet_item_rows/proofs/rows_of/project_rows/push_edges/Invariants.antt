-- The rows that were there, and those of the edges so far.
use Rattle.std.proofs.Common.{◌≡◌, ◌++◌, map, take}
use Rattle.vet_item_rows.specs.ProjectRows.{edge_row}
use Rattle.vet_item_rows.proofs.rows_of.project_rows.push_edges.Given as goal

abbrev pub invariant-edges : goal.invariant-edges
invariant-edges l =
    l.rows.items
    ≡ l.initial.rows.items
    ++ map (edge_row l.named.name l.named.project.nodes) (take l.edge-index l.named.project.edges)
