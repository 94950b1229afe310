-- The rows of policies and projects that can be held have a text in each column of texts.
use Rattle.std.proofs.Common.{IsUtf8, length, subst, sym}
use Rattle.std.specs.List.{All, flat_map}
use Rattle.vet_base.proofs.ItemLemmas.{in_all, in_map}
use Rattle.vet_base.specs.Items.{IsIn}
use Rattle.vet_base.specs.Words.{Name}
use Rattle.vet_demand.specs.Needs.{no_node, node_at}
use Rattle.vet_demand.specs.Project.{IsWithin}
use Rattle.vet_demand.specs.declared.policies.KeyedPolicy.{KeyedPolicy}
use Rattle.vet_demand.specs.declared.project.Edge.{Edge}
use Rattle.vet_demand.specs.declared.project.NamedProject.{NamedProject}
use Rattle.vet_demand.specs.declared.project.Node.{Node}
use Rattle.vet_item_rows.specs.HeldValues.{IsKeyedPolicy, IsNamedProject, IsNode}
use Rattle.vet_item_rows.specs.ProjectRows.{edge_row, edge_rows, node_row, node_rows}
use Rattle.vet_item_rows.specs.SettingRows.{policy_row}
use Rattle.vet_register.specs.Held.{HeldValue}
use Rattle.vet_rows.specs.DemandRows.{rows_of_demand}
use Rattle.vet_store.proofs.HeldTexts.{key_is_text, package_text, version_is_text}
use Rattle.vet_store.proofs.RowTexts.{AreTold, each_flat, each_row}
use Rattle.vet_tables.specs.Cells.{Row}
use Rattle.vet_tables.specs.declared.table_name.DemandTable.{DemandTable}
use Rattle.vet_tables.specs.declared.table_name.DemandTable.TheVariants.{Edges, Nodes, Policies}

policy_told : (p : KeyedPolicy) → IsKeyedPolicy p → AreTold (policy_row p)
policy_told p h = (key_is_text p.key h.key, (tt, (tt, (tt, (tt, (tt, tt))))))

node_told : (project : Name) → IsUtf8 project → (node : Node) → IsNode node
    → AreTold (node_row project node)
node_told project text node h =
    (text, (package_text node.«package» h.of_package, (version_is_text node.version h.version, (tt, tt))))

edge_told : (p : NamedProject) → IsNamedProject p → (e : Edge) → IsNode (node_at p.project.nodes e.from)
    → IsNode (node_at p.project.nodes e.to) → AreTold (edge_row p.name p.project.nodes e)
edge_told p h e from to = (
  package_text p.name h.name,
  (
    package_text (node_at p.project.nodes e.from).«package» from.of_package,
    (
      version_is_text (node_at p.project.nodes e.from).version from.version,
      (
        package_text (node_at p.project.nodes e.to).«package» to.of_package,
        (version_is_text (node_at p.project.nodes e.to).version to.version, (tt, tt)),
      ),
    ),
  ),
)

edges_told : (p : NamedProject) → IsNamedProject p → (r : Row) → IsIn r (edge_rows p) → AreTold r
edges_told p h r i =
    let it = in_map (edge_row p.name p.project.nodes) p.project.edges r i in
    let within = in_all (IsWithin (length p.project.nodes)) p.project.edges h.project.within it.0 it.1.0 in
    subst AreTold (sym it.1.1)
    (edge_told p h it.0 (h.nodes it.0.from no_node within.0) (h.nodes it.0.to no_node within.1))

module _ (held : HeldValue) (policies : All IsKeyedPolicy held.policies)
    (projects : All IsNamedProject held.projects) where
  nodes_told : (r : Row) → IsIn r (flat_map node_rows held.projects) → AreTold r
  nodes_told = each_flat IsNamedProject node_rows
      (λ p h. each_row IsNode (node_row p.name)
      (node_told p.name (package_text p.name h.name)) p.project.nodes h.nodes) held.projects projects

  pub demand_told : (t : DemandTable) (r : Row) → IsIn r (rows_of_demand held t) → AreTold r
  demand_told Policies r i = each_row IsKeyedPolicy policy_row policy_told held.policies policies r i
  demand_told Nodes r i = nodes_told r i
  demand_told Edges r i = each_flat IsNamedProject edge_rows edges_told held.projects projects r i
