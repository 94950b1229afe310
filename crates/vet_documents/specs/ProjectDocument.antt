-- The documents of the commands to projects (ours).
use Rattle.std.specs.Prelude.{[], ◌∷◌, Ok}
use Rattle.toml.specs.Data.{Members}
use Rattle.vet_base.specs.Gives.{Told, ◌>>=◌}
use Rattle.vet_demand.specs.DependencyTable.{project_of_bytes}
use Rattle.vet_documents.specs.DocumentField.{a_package, any_text, only}
use Rattle.vet_documents.specs.DocumentKeys.{COMMAND, CSV, PROJECT}
use Rattle.vet_files.specs.Field.{required}
use Rattle.vet_register.specs.declared.command.Action.{Action}
use Rattle.vet_register.specs.declared.command.Action.TheVariants.{DropProject, LoadProject}

-- the dependency table is read only if nothing else is at fault
abbrev pub load_project_told : Members → Told Action
load_project_told ms =
    required a_package COMMAND PROJECT ms >>= λ name.
    required any_text COMMAND CSV ms >>= λ table.
    only (PROJECT ∷ CSV ∷ []) ms >>= λ _.
    project_of_bytes table >>= λ project.
    Ok (LoadProject (record { name = name; project = project }))

abbrev pub drop_project_told : Members → Told Action
drop_project_told ms =
    required a_package COMMAND PROJECT ms >>= λ name.
    only (PROJECT ∷ []) ms >>= λ _.
    Ok (DropProject name)
