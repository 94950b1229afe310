-- The rows of the projects so far.
use Rattle.std.proofs.Common.{◌≡◌, take}
use Rattle.std.specs.List.{flat_map}
use Rattle.vet_item_rows.specs.ProjectRows.{node_rows}
use Rattle.vet_item_rows.proofs.rows_of.project_rows.all_nodes.Given as goal

abbrev pub invariant-projects : goal.invariant-projects
invariant-projects l = l.rows.items ≡ flat_map node_rows (take l.named-index l.projects)
