-- The rows of projects (ours).
use Rattle.std.specs.Prelude.{pos, List, [], ◌∷◌, map}
use Rattle.vet_base.specs.Version.{version_text}
use Rattle.vet_base.specs.Words.{Name}
use Rattle.vet_demand.specs.Needs.{node_at}
use Rattle.vet_demand.specs.Project.{kind_place, party_place}
use Rattle.vet_demand.specs.declared.project.Edge.{Edge}
use Rattle.vet_demand.specs.declared.project.NamedProject.{NamedProject}
use Rattle.vet_demand.specs.declared.project.Node.{Node}
use Rattle.vet_tables.specs.Cells.{Row}
use Rattle.vet_tables.specs.declared.cell.Cell.TheVariants.{Int, Text}

-- a node of the project of a name
abbrev pub node_row : Name → Node → Row
node_row project node =
    Text project ∷ Text node.«package» ∷ Text (version_text node.version) ∷ Int (pos (party_place node.party)) ∷ []

-- an edge between two of these nodes
abbrev pub edge_row : Name → List Node → Edge → Row
edge_row project nodes edge =
    Text project ∷ Text (node_at nodes edge.from).«package» ∷ Text (version_text (node_at nodes edge.from).version)
    ∷ Text (node_at nodes edge.to).«package» ∷ Text (version_text (node_at nodes edge.to).version)
    ∷ Int (pos (kind_place edge.kind)) ∷ []

-- those of a project
abbrev pub node_rows : NamedProject → List Row
node_rows p = map (node_row p.name) p.project.nodes

abbrev pub edge_rows : NamedProject → List Row
edge_rows p = map (edge_row p.name p.project.nodes) p.project.edges
