-- A project with its name is equal only to itself (ours).
use Rattle.std.specs.Prelude.{◌≡◌}
use Rattle.std.specs.Bool.{Decides}
use Rattle.std.specs.Cmp.Lexicographic.{bytes_decides}
use Rattle.std.proofs.Common.{ap}
use Rattle.std.proofs.lemmas.Bool.Decides.{Decides-and, Decides-like}
use Rattle.vet_demand.specs.declared.project.NamedProject.{NamedProject}
use Rattle.vet_demand.specs.ProjectLaws.{project_eq-Decides}
use Rattle.vet_demand.specs.NamedProject.{named_project_eq}

same_named : (a b : NamedProject) → (a.name ≡ b.name) × (a.project ≡ b.project) → a ≡ b
same_named a b h = λ i. record { name = h.0 i; project = h.1 i }

-- a project with its name is equal only to itself
pub named_project_eq-Decides : (a b : NamedProject) → Decides (named_project_eq a b) (a ≡ b)
named_project_eq-Decides a b =
    Decides-like _ (same_named a b) (λ e. (ap (λ (p : NamedProject). p.name) e, ap (λ (p : NamedProject). p.project) e))
    (Decides-and _ _ (bytes_decides a.name b.name) (project_eq-Decides a.project b.project))
