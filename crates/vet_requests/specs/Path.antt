-- The routes of targets: a table of paths, and targets split at their slashes (ours).
use Rattle.std.specs.Prelude.{List, [], ◌∷◌, Bool, true, false, ◌&&◌, Option, Some, None, codes, if◌then◌else◌}
use Rattle.std.specs.List.{slice_split}
use Rattle.std.specs.Str.{bytes_eq, is_utf8}
use Rattle.vet_base.specs.Words.{Bytes, Text}
use Rattle.vet_reports.specs.declared.report.Report.TheVariants as report
use Rattle.vet_requests.specs.Parameter.{is_slash}
use Rattle.vet_requests.specs.declared.route.Route.{Route}
use Rattle.vet_requests.specs.declared.route.Route.TheVariants.{Class, Commands, File, Peer, Project, Report}
use Rattle.vet_requests.specs.declared.route.Route.TheVariants.{StandingOf}

-- a part of a path after a slash: a word, or a parameter
pub data Part : Type 0 where
  word : Text → Part
  parameter : Part

-- a path with its route; each part comes after a slash
abbrev pub Path : Type 0
Path = List Part × Route

abbrev pub path : List Part → Route → Path
path parts route = (parts, route)

abbrev pub paths : List Path
paths =
    path (word (codes "counts") ∷ []) (Report report.Counts)
    ∷ path (word (codes "standing") ∷ []) (Report report.Standing)
    ∷ path (word (codes "standing") ∷ parameter ∷ []) StandingOf
    ∷ path (word (codes "standing.csv") ∷ []) (Report report.StandingCsv)
    ∷ path (word (codes "moves") ∷ []) (Report report.Moves)
    ∷ path (word (codes "desk") ∷ []) (Report report.Desk)
    ∷ path (word (codes "lapses") ∷ []) (Report report.Lapses)
    ∷ path (word (codes "class") ∷ parameter ∷ parameter ∷ parameter ∷ []) Class
    ∷ path (word (codes "files") ∷ parameter ∷ []) File
    ∷ path (word (codes "projects") ∷ parameter ∷ []) Project
    ∷ path (word (codes "peers") ∷ parameter ∷ []) Peer
    ∷ path (word (codes "commands") ∷ []) Commands
    ∷ []

-- a text fits a word if it is that word, and a parameter if it is not empty
abbrev pub fits : Part → Text → Bool
fits (word w) text = bytes_eq text w
fits parameter [] = false
fits parameter (b ∷ text) = true

-- each text fits the part in its place
abbrev pub fit : List Part → List Text → Bool
fit [] [] = true
fit [] (text ∷ texts) = false
fit (part ∷ parts) [] = false
fit (part ∷ parts) (text ∷ texts) = fits part text && fit parts texts

-- the route of the first path whose parts these texts fit
abbrev pub route_among : List Path → List Text → Option Route
route_among [] texts = None
route_among (row ∷ rows) texts = if fit row.0 texts then Some row.1 else route_among rows texts

-- the route of a target that is a text: it begins with a slash, and is split at those after it
abbrev pub route_at : Text → Option Route
route_at [] = None
route_at (b ∷ rest) = if is_slash b then route_among paths (slice_split is_slash rest) else None

-- the route of a target; a target that is not UTF-8, which no head has, has none
abbrev pub route_of : Bytes → Option Route
route_of target = if is_utf8 target then route_at target else None
