-- The rows of policies and projects (ours).
use Rattle.std.specs.Prelude.{List, map}
use Rattle.std.specs.List.{flat_map}
use Rattle.vet_demand.specs.declared.policies.KeyedPolicy.{KeyedPolicy}
use Rattle.vet_item_rows.specs.ProjectRows.{edge_rows, node_rows}
use Rattle.vet_item_rows.specs.SettingRows.{policy_row}
use Rattle.vet_register.specs.Held.{HeldValue}
use Rattle.vet_rows.specs.KeyedItems.{one_row}
use Rattle.vet_tables.specs.Cells.{Row}
use Rattle.vet_tables.specs.declared.table_name.DemandTable.{DemandTable}
use Rattle.vet_tables.specs.declared.table_name.DemandTable.TheVariants.{Policies, Nodes, Edges}

-- in each of their tables
abbrev pub rows_of_demand : HeldValue → DemandTable → List Row
rows_of_demand held Policies = map policy_row held.policies
rows_of_demand held Nodes = flat_map node_rows held.projects
rows_of_demand held Edges = flat_map edge_rows held.projects

-- of a policy
abbrev pub the_policy : KeyedPolicy → List Row
the_policy = one_row policy_row
