-- No place so far leads to the version.
use Rattle.std.proofs.Common.{◌≢◌, take}
use Rattle.std.specs.List.{All}
use Rattle.vet_graph.specs.Search.{version_at}
use Rattle.vet_graph.proofs.search.leads_to.Given as goal

abbrev pub invariant-places : goal.invariant-places
invariant-places l = All (λ p. version_at l.steps p ≢ l.version) (take l.place-index l.places)
