-- The methods of each route, and the action of each method (ours; RFC 9110, methods and Allow).
use Rattle.std.specs.Prelude.{List, [], ◌∷◌, ◌++◌, Option, Some, None, codes, if◌then◌else◌}
use Rattle.std.specs.Str.{bytes_eq}
use Rattle.vet_base.specs.Words.{Bytes, Text}
use Rattle.vet_requests.specs.declared.route.RouteAction.{RouteAction}
use Rattle.vet_requests.specs.declared.route.RouteAction.TheVariants.{Shows, Runs}
use Rattle.vet_requests.specs.declared.route.BodyKind.TheVariants as given
use Rattle.vet_requests.specs.declared.route.Route.{Route}
use Rattle.vet_requests.specs.declared.route.Route.TheVariants as route
use Rattle.vet_requests.specs.declared.route.Shown.{Shown}
use Rattle.vet_requests.specs.declared.route.Shown.TheVariants as shown

-- a method with its action
abbrev pub Row : Type 0
Row = Text × RouteAction

abbrev pub GET : Text
GET = codes "GET"

abbrev pub PUT : Text
PUT = codes "PUT"

abbrev pub POST : Text
POST = codes "POST"

-- the rows of a route that only shows something
abbrev pub shown_alone : Shown → List Row
shown_alone what = (GET, Shows what) ∷ []

-- the methods of a route, in the order in which `Allow` lists them
abbrev pub asked_at : Route → List Row
asked_at (route.Report report) = shown_alone (shown.Report report)
asked_at route.StandingOf = shown_alone shown.StandingOf
asked_at route.Class = shown_alone shown.Class
asked_at route.File = shown_alone shown.File
asked_at route.Project = (GET, Shows shown.Project) ∷ (PUT, Runs given.Project) ∷ []
asked_at route.Peer = (PUT, Runs given.Peer) ∷ []
asked_at route.Commands = (POST, Runs given.Document) ∷ []

-- the action of a method
abbrev pub asked_by : Bytes → List Row → Option RouteAction
asked_by method [] = None
asked_by method (row ∷ rows) = if bytes_eq method row.0 then Some row.1 else asked_by method rows

-- methods as `Allow` lists them
abbrev pub told_methods : List Row → Text
told_methods [] = []
told_methods (row ∷ []) = row.0
told_methods (row ∷ other ∷ rows) = row.0 ++ (codes ", " ++ told_methods (other ∷ rows))
