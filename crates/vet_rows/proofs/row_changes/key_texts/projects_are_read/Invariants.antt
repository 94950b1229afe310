-- Those so far.
use Rattle.std.proofs.Common.{take}
use Rattle.vet_rows.specs.KeyTexts.{ProjectsAreRead}
use Rattle.vet_rows.proofs.row_changes.key_texts.projects_are_read.Given as goal

abbrev pub invariant-projects : goal.invariant-projects
invariant-projects l = ProjectsAreRead (take l.project-index l.projects)
