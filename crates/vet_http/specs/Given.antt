-- The command that the body of a request gives (ours).
use Rattle.std.specs.Prelude.{Ok}
use Rattle.vet_base.specs.Day.{DayValue}
use Rattle.vet_base.specs.Gives.{Told, ◌>>=◌}
use Rattle.vet_base.specs.Words.{Text}
use Rattle.vet_demand.specs.DependencyTable.{project_of_bytes}
use Rattle.vet_documents.specs.CommandDocument.{command_told}
use Rattle.vet_files.specs.Imports.{peer_content_told}
use Rattle.vet_register.specs.declared.command.Action.{Action}
use Rattle.vet_register.specs.declared.command.Action.TheVariants.{ImportPeer, LoadProject}
use Rattle.vet_register.specs.declared.command.Command.{Command}
use Rattle.vet_requests.specs.Parameter.{first_parameter, name_told, package_told}
use Rattle.vet_requests.specs.Request.{RequestValue}
use Rattle.vet_requests.specs.declared.route.BodyKind.{BodyKind}
use Rattle.vet_requests.specs.declared.route.BodyKind.TheVariants.{Document, Peer, Project}

-- the body is the dependency table of the project that the parameter names; the parameter is looked at first
abbrev pub project_given : Text → RequestValue → Told Action
project_given target r =
    package_told (first_parameter target) >>= λ name.
    project_of_bytes r.body >>= λ project.
    Ok (LoadProject (record { name = name; project = project }))

-- the body is the audits file of the peer that the parameter names; the parameter is looked at first
abbrev pub peer_given : Text → RequestValue → Told Action
peer_given target r =
    name_told (first_parameter target) >>= λ name.
    peer_content_told r.body >>= λ found.
    Ok (ImportPeer name found.content)

-- an action, on a day
abbrev pub on_day : DayValue → Action → Told Command
on_day day action = Ok (record { day = day; action = action })

-- the command that is given on a day
unfoldable pub given_told : BodyKind → DayValue → Text → RequestValue → Told Command
given_told Project day target r = project_given target r >>= on_day day
given_told Peer day target r = peer_given target r >>= on_day day
given_told Document day target r = command_told r.body day r.member
