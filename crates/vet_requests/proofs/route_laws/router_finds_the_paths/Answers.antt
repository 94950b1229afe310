-- The router finds the route of the table.
use Rattle.vet_requests.proofs.Routed.{routed}
use Rattle.vet_requests.proofs.route_laws.router_finds_the_paths.Goals as goal

pub returns : goal.returns
returns c = routed
