-- The command that a request asks for (ours).
use Rattle.std.specs.Prelude.{Option, Some, None, Ok, Err}
use Rattle.vet_base.specs.Day.{DayValue}
use Rattle.vet_base.specs.Gives.{Told}
use Rattle.vet_http.specs.Given.{given_told}
use Rattle.vet_register.specs.declared.command.Command.{Command}
use Rattle.vet_requests.specs.Request.{RequestValue}
use Rattle.vet_requests.specs.Route.{asked_at, asked_by}
use Rattle.vet_requests.specs.Path.{route_of}
use Rattle.vet_requests.specs.declared.route.RouteAction.{RouteAction}
use Rattle.vet_requests.specs.declared.route.RouteAction.TheVariants.{Runs, Shows}
use Rattle.vet_requests.specs.declared.route.Route.{Route}

-- the command that is given, if there is one
unfoldable pub given_in : Told Command → Option Command
given_in (Ok command) = Some command
given_in (Err refusal) = None

-- the command of the action that is asked for
unfoldable pub given_by : DayValue → RequestValue → Option RouteAction → Option Command
given_by day r None = None
given_by day r (Some (Shows what)) = None
given_by day r (Some (Runs given)) = given_in (given_told given day r.target r)

-- the command that is asked for at a route
unfoldable pub given_at : DayValue → RequestValue → Option Route → Option Command
given_at day r None = None
given_at day r (Some route) = given_by day r (asked_by r.method (asked_at route))

-- the command that a request asks for on a day, if it asks for one
abbrev pub asked_for : DayValue → RequestValue → Option Command
asked_for day r = given_at day r (route_of r.target)
