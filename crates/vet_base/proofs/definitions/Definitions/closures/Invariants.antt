-- What each criterion reaches by way of those from the place on.
use Rattle.std.proofs.Common.{◌≡◌, ℕ, ◌≤◌, length, drop}
use Rattle.std.specs.FinMap as map
use Rattle.std.specs.FinSet as set
use Rattle.vet_base.specs.Closures.{closed_at}
use Rattle.vet_base.proofs.Closed.{reach_at}
use Rattle.vet_base.proofs.definitions.Definitions.closures.Given as goal

abbrev pub invariant-places : goal.invariant-places
invariant-places l = record {
  within : l.place ≤ length l.self-inside.criteria.items;
  rest : (p : ℕ) → l.count ≤ p → closed_at l.closures p ≡ set.empty;
  found : (p : ℕ) → closed_at l.closures p ≡ reach_at l.self (drop l.place (map.entries l.self)) p;
}

abbrev pub decreases-places : goal.decreases-places
decreases-places l = l.place
