-- The rows of policies and projects have the columns of their tables.
use Rattle.std.proofs.Common.{List, map}
use Rattle.std.specs.List.{flat_map}
use Rattle.vet_base.specs.Words.{Name}
use Rattle.vet_demand.specs.declared.policies.KeyedPolicy.{KeyedPolicy}
use Rattle.vet_demand.specs.declared.project.Edge.{Edge}
use Rattle.vet_demand.specs.declared.project.NamedProject.{NamedProject}
use Rattle.vet_demand.specs.declared.project.Node.{Node}
use Rattle.vet_item_rows.specs.ProjectRows.{edge_row, edge_rows, node_row, node_rows}
use Rattle.vet_item_rows.specs.SettingRows.{policy_row}
use Rattle.vet_register.specs.Held.{HeldValue}
use Rattle.vet_rows.proofs.FitLists.{AreRows, flat_fit, mapped_fit, one_fit}
use Rattle.vet_rows.specs.DemandRows.{rows_of_demand, the_policy}
use Rattle.vet_tables.specs.Cells.{IsRowOf}
use Rattle.vet_tables.specs.Forms.{form_of}
use Rattle.vet_tables.specs.declared.table_name.DemandTable.{DemandTable}
use Rattle.vet_tables.specs.declared.table_name.DemandTable.TheVariants.{Edges, Nodes, Policies}
use Rattle.vet_tables.specs.declared.table_name.TableName.TheVariants as table

pub policy_fits : (p : KeyedPolicy) → IsRowOf (form_of (table.Demand Policies)) (policy_row p)
policy_fits p = (tt, (tt, (tt, (tt, (tt, (tt, tt))))))

pub policies_fit : (policies : List KeyedPolicy) → AreRows (table.Demand Policies) (map policy_row policies)
policies_fit = mapped_fit (table.Demand Policies) policy_row policy_fits

node_fits : (project : Name) (n : Node) → IsRowOf (form_of (table.Demand Nodes)) (node_row project n)
node_fits project n = (tt, (tt, (tt, (tt, tt))))

pub project_nodes_fit : (p : NamedProject) → AreRows (table.Demand Nodes) (node_rows p)
project_nodes_fit p = mapped_fit (table.Demand Nodes) (node_row p.name) (node_fits p.name) p.project.nodes

pub nodes_fit : (projects : List NamedProject) → AreRows (table.Demand Nodes) (flat_map node_rows projects)
nodes_fit = flat_fit (table.Demand Nodes) node_rows project_nodes_fit

edge_fits : (project : Name) (nodes : List Node) (e : Edge)
    → IsRowOf (form_of (table.Demand Edges)) (edge_row project nodes e)
edge_fits project nodes e = (tt, (tt, (tt, (tt, (tt, (tt, tt))))))

pub project_edges_fit : (p : NamedProject) → AreRows (table.Demand Edges) (edge_rows p)
project_edges_fit p =
    mapped_fit (table.Demand Edges) (edge_row p.name p.project.nodes) (edge_fits p.name p.project.nodes) p.project.edges

pub edges_fit : (projects : List NamedProject) → AreRows (table.Demand Edges) (flat_map edge_rows projects)
edges_fit = flat_fit (table.Demand Edges) edge_rows project_edges_fit

pub demand_rows_fit : (held : HeldValue) (t : DemandTable) → AreRows (table.Demand t) (rows_of_demand held t)
demand_rows_fit held Policies = policies_fit held.policies
demand_rows_fit held Nodes = nodes_fit held.projects
demand_rows_fit held Edges = edges_fit held.projects

-- the row of a policy that an edit removes or adds
pub the_policy_fits : (p : KeyedPolicy) → AreRows (table.Demand Policies) (the_policy p)
the_policy_fits p = one_fit (table.Demand Policies) (policy_row p) (policy_fits p)
