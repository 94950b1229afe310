-- The paths as rows of `matchit`, in its order (ours). In a pattern a parameter is one token. A row also has the text
-- of the path, and the places of the parameters' names in that text.
use Rattle.std.specs.Prelude.{ℕ, List, [], ◌∷◌, ◌++◌, Option, codes}
use Rattle.std.specs.Option.{option_map}
use Rattle.matchit.specs.Order.{placed}
use Rattle.matchit.specs.Router.{RouteOf}
use Rattle.matchit.specs.Rows.{RowsOf, param_token}
use Rattle.matchit.specs.Seek.{first}
use Rattle.vet_base.specs.Words.{Text}
use Rattle.vet_reports.specs.declared.report.Report.TheVariants as report
use Rattle.vet_requests.specs.declared.route.Route.{Route}
use Rattle.vet_requests.specs.declared.route.Route.TheVariants.{Class, Commands, File, Peer, Project, Report}
use Rattle.vet_requests.specs.declared.route.Route.TheVariants.{StandingOf}

-- a path with parameters
abbrev pub with_names : Text → Text → List (ℕ × ℕ) → Route → Text × RouteOf Route
with_names pattern text names route =
    (pattern, record { pattern = pattern; text = text; names = names; value = route })

-- a path without parameters
abbrev pub plain : Text → Route → Text × RouteOf Route
plain text route = with_names text text [] route

-- one parameter
abbrev pub one_parameter : Text
one_parameter = param_token ∷ []

-- three parameters, with slashes between them
abbrev pub three_parameters : Text
three_parameters = param_token ∷ 47 ∷ param_token ∷ 47 ∷ param_token ∷ []

-- each path as it is inserted, the first one last
unfoldable pub table : RowsOf (RouteOf Route)
table =
    placed (plain (codes "/commands") Commands)
    (placed (with_names (codes "/peers/" ++ one_parameter) (codes "/peers/{peer}") ((8, 12) ∷ []) Peer)
    (placed (with_names (codes "/projects/" ++ one_parameter) (codes "/projects/{project}") ((11, 18) ∷ []) Project)
    (placed (with_names (codes "/files/" ++ one_parameter) (codes "/files/{file}") ((8, 12) ∷ []) File)
    (placed (with_names (codes "/class/" ++ three_parameters) (codes "/class/{package}/{version}/{criterion}")
    ((8, 15) ∷ (18, 25) ∷ (28, 37) ∷ []) Class)
    (placed (plain (codes "/lapses") (Report report.Lapses))
    (placed (plain (codes "/desk") (Report report.Desk))
    (placed (plain (codes "/moves") (Report report.Moves))
    (placed (plain (codes "/standing.csv") (Report report.StandingCsv))
    (placed (with_names (codes "/standing/" ++ one_parameter) (codes "/standing/{package}") ((11, 18) ∷ []) StandingOf)
    (placed (plain (codes "/standing") (Report report.Standing))
    (placed (plain (codes "/counts") (Report report.Counts)) [])))))))))))

-- the route that `matchit` finds for a target by these rows
abbrev pub routed_at : Text → Option Route
routed_at target = option_map (λ (r : RouteOf Route). r.value) (first table target)
