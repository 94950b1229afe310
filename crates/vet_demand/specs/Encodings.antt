-- How the models of this crate are stored (ours).
use Rattle.std.specs.Prelude.{List, refl}
use Rattle.std.specs.Coded.{Coded, code_by, coded×, coded_list}
use Rattle.vet_demand.specs.declared.project.Node.{Node}
use Rattle.vet_demand.specs.declared.project.Edge.{Edge}
use Rattle.vet_demand.specs.Project.{ProjectValue}

-- a project is stored as the pair of its lists
abbrev pub project_code : Coded Node → Coded Edge → Coded ProjectValue
project_code of_nodes of_edges =
    code_by (List Node × List Edge)
    (coded× (coded_list of_nodes) (coded_list of_edges))
    (λ p. (p.nodes, p.edges))
    (λ p. record { nodes = p.0; edges = p.1 })
    (λ _. refl)
