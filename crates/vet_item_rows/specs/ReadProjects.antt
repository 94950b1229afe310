-- Which projects the rows of nodes and edges are of (ours).
use Rattle.std.specs.Prelude.{◌≡◌, List, [], ◌∷◌, map}
use Rattle.std.specs.List.{All, flat_map}
use Rattle.std.specs.Ordering.{nat_cmp}
use Rattle.std.specs.Cmp.Lexicographic.{slice_cmp}
use Rattle.std.specs.Prelude.{length, pos}
use Rattle.vet_base.specs.Items.{SameItems}
use Rattle.vet_base.specs.Keyed.{IsByKey}
use Rattle.vet_base.specs.Version.{IsVersion, version_text}
use Rattle.vet_base.specs.Words.{Name}
use Rattle.vet_demand.specs.NamedProject.{project_name}
use Rattle.vet_demand.specs.Needs.{node_at}
use Rattle.vet_demand.specs.Project.{IsWithin, kind_place}
use Rattle.vet_demand.specs.declared.project.Edge.{Edge}
use Rattle.vet_demand.specs.declared.project.NamedProject.{NamedProject}
use Rattle.vet_demand.specs.declared.project.Node.{Node}
use Rattle.vet_item_rows.specs.Gathered.{Gathered}
use Rattle.vet_item_rows.specs.HeldValues.{IsNamedProject, IsNode}
use Rattle.vet_item_rows.specs.ProjectRows.{node_row}
use Rattle.vet_item_rows.specs.Values.{IsPackage}
use Rattle.vet_item_rows.specs.declared.read.gathered.WithKey.{WithKey}
use Rattle.vet_item_rows.specs.declared.read.projects.End.{End}
use Rattle.vet_item_rows.specs.declared.read.projects.EdgeEnds.{EdgeEnds}
use Rattle.vet_tables.specs.Cells.{Row}
use Rattle.vet_tables.specs.declared.cell.Cell.TheVariants.{Int, Text}

-- ---- nodes

abbrev pub IsFiledNode : WithKey Name Node → Type 0
IsFiledNode filed = IsPackage filed.key × IsNode filed.item

abbrev pub filed_node_row : WithKey Name Node → Row
filed_node_row filed = node_row filed.key filed.item

-- the nodes of a project, under its name
abbrev pub filed_nodes : NamedProject → List (WithKey Name Node)
filed_nodes p = map (λ node. record { key = p.name; item = node }) p.project.nodes

-- ---- edges by their ends

abbrev pub IsEnd : End → Type 0
IsEnd end = IsPackage end.«package» × IsVersion end.version

abbrev pub IsFiledEnds : WithKey Name EdgeEnds → Type 0
IsFiledEnds filed = IsPackage filed.key × (IsEnd filed.item.from × IsEnd filed.item.to)

abbrev pub filed_ends_row : WithKey Name EdgeEnds → Row
filed_ends_row filed =
    Text filed.key ∷ Text filed.item.from.«package» ∷ Text (version_text filed.item.from.version)
    ∷ Text filed.item.to.«package» ∷ Text (version_text filed.item.to.version) ∷ Int (pos (kind_place filed.item.kind))
    ∷ []

-- the end that is a node, and the ends of an edge between nodes
abbrev pub end_of : Node → End
end_of node = record { «package» = node.«package»; version = node.version }

abbrev pub ends_of : List Node → Edge → EdgeEnds
ends_of nodes edge = record {
  from = end_of (node_at nodes edge.from);
  to = end_of (node_at nodes edge.to);
  kind = edge.kind;
}

-- the edges of a project by their ends, under its name
abbrev pub filed_ends : NamedProject → List (WithKey Name EdgeEnds)
filed_ends p = map (λ edge. record { key = p.name; item = ends_of p.project.nodes edge }) p.project.edges

-- an edge between some nodes has these ends
abbrev pub IsEdgeOf : List Node → EdgeEnds → Edge → Type 0
IsEdgeOf nodes ends edge = IsWithin (length nodes) edge × (ends ≡ ends_of nodes edge)

-- ---- projects

-- a name, nodes and edges are those of a project, nodes and edges in whatever order
pub record TellsProject (name : Name) (nodes : List Node) (edges : List EdgeEnds) (p : NamedProject) : Type 0 where
  pub can_be_held : IsNamedProject p
  pub named : name ≡ p.name
  pub same_nodes : SameItems nodes p.project.nodes
  pub same_edges : SameItems edges (map (ends_of p.project.nodes) p.project.edges)

-- what is gathered under a name is that of a project
abbrev pub TellsGathered : Gathered (Gathered Name Node) EdgeEnds → NamedProject → Type 0
TellsGathered g p = TellsProject g.head.head g.head.items g.items p

-- filed nodes and edges are those of some projects
pub record AreNodesAndEdgesOf (nodes : List (WithKey Name Node)) (edges : List (WithKey Name EdgeEnds))
    (projects : List NamedProject) : Type 0 where
  pub by_name : IsByKey (slice_cmp nat_cmp) project_name projects
  pub each : All IsNamedProject projects
  pub same_nodes : SameItems nodes (flat_map filed_nodes projects)
  pub same_edges : SameItems edges (flat_map filed_ends projects)
