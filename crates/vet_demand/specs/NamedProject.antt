-- Projects by name (ours).
use Rattle.std.specs.Prelude.{◌&&◌, nat_eq, Bool}
use Rattle.std.specs.Cmp.Lexicographic.{pointwise}
use Rattle.vet_base.specs.Words.{Name}
use Rattle.vet_demand.specs.declared.project.NamedProject.{NamedProject}
use Rattle.vet_demand.specs.Project.{project_eq}

-- the name of a project, which is its key
abbrev pub project_name : NamedProject → Name
project_name p = p.name

-- the same name with the same project
abbrev pub named_project_eq : NamedProject → NamedProject → Bool
named_project_eq a b = pointwise nat_eq a.name b.name && project_eq a.project b.project
