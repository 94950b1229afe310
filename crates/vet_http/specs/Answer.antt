-- The reply to a request, and the state after it: the action that is asked for, then its answer (ours).
use Rattle.std.specs.Prelude.{◌≡◌, ◌⊎◌, Option, Some, None, Ok, Err}
use Rattle.vet_base.specs.Day.{DayValue}
use Rattle.vet_base.specs.Gives.{Told}
use Rattle.vet_base.specs.declared.refusal.Refusal.TheVariants.{NoMemory, StoreRefused}
use Rattle.vet_http.specs.Given.{given_told}
use Rattle.vet_http.specs.Shown.{IsShown}
use Rattle.vet_http.specs.Told.{command_reply, refusal_reply}
use Rattle.vet_register.specs.Runs.{after, told}
use Rattle.vet_register.specs.State.{State}
use Rattle.vet_register.specs.declared.command.Command.{Command}
use Rattle.vet_requests.specs.Reply.{not_allowed, plain_reply}
use Rattle.vet_requests.specs.Request.{RequestValue}
use Rattle.vet_requests.specs.Route.{asked_at, asked_by, told_methods}
use Rattle.vet_requests.specs.Path.{route_of}
use Rattle.vet_requests.specs.declared.reply.Reply.{Reply}
use Rattle.vet_requests.specs.declared.route.RouteAction.{RouteAction}
use Rattle.vet_requests.specs.declared.route.RouteAction.TheVariants.{Runs, Shows}
use Rattle.vet_requests.specs.declared.route.Route.{Route}
use Rattle.vet_requests.specs.declared.status.Status.TheVariants as status

-- a reply that changes nothing
abbrev pub Stays : Reply → Reply → State → State → Type 0
Stays wanted reply s end = (reply ≡ wanted) × (end ≡ s)

-- the reply is the machine's verdict on the command; if there is no command, it is the refusal, and the state stays
unfoldable pub IsRun : Told Command → State → Reply → State → Type 0
IsRun (Ok command) s reply end = (reply ≡ command_reply (told s command)) × (end ≡ after s command)
IsRun (Err refusal) s reply end = Stays (refusal_reply refusal) reply s end

-- the action that is asked for is answered
abbrev pub IsAnswered : RouteAction → DayValue → RequestValue → State → Reply → State → Type 0
IsAnswered (Shows what) day r s reply end = IsShown what r.target s reply × (end ≡ s)
IsAnswered (Runs given) day r s reply end = IsRun (given_told given day r.target r) s reply end

-- the answer by a method; if the route lacks it, the reply lists the methods that it has
unfoldable pub IsByMethod : Route → Option RouteAction → DayValue → RequestValue → State → Reply → State → Type 0
IsByMethod route None day r s reply end = Stays (not_allowed (told_methods (asked_at route))) reply s end
IsByMethod route (Some asked) day r s reply end = IsAnswered asked day r s reply end

-- the answer at a route; a target without one is not found
unfoldable pub IsByRoute : Option Route → DayValue → RequestValue → State → Reply → State → Type 0
IsByRoute None day r s reply end = Stays (plain_reply status.NotFound) reply s end
IsByRoute (Some route) day r s reply end =
    IsByMethod route (asked_by r.method (asked_at route)) day r s reply end

-- memory ran out, or the store refused
abbrev pub IsUnavailable : Reply → Type 0
IsUnavailable reply = (reply ≡ refusal_reply NoMemory) ⊎ (reply ≡ refusal_reply StoreRefused)

-- the reply to a request on a day in a state, and the state after it, by the route of its target; instead it may say
-- that the register is unavailable, and then the state stays
abbrev pub IsReplyTo : DayValue → RequestValue → State → Reply → State → Type 0
IsReplyTo day r s reply end = IsByRoute (route_of r.target) day r s reply end ⊎ (IsUnavailable reply × (end ≡ s))
