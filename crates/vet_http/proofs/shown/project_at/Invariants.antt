-- The project of a name among all is that among the rest.
use Rattle.std.proofs.Common.{◌≡◌, drop}
use Rattle.vet_register.specs.Held.{project_at}
use Rattle.vet_http.proofs.shown.project_at.Given as goal

abbrev pub invariant-projects : goal.invariant-projects
invariant-projects l = project_at l.projects l.name ≡ project_at (drop l.project-index l.projects) l.name
