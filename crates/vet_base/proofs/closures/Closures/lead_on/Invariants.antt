-- The first of them are led on.
use Rattle.std.proofs.Common.{◌≡◌, ℕ, ◌<◌, ◌≤◌, get_or, length}
use Rattle.std.specs.FinSet as set
use Rattle.vet_base.specs.declared.limits.TheConstants.{MOST_CRITERIA as most}
use Rattle.vet_base.specs.Closures.{led_on}
use Rattle.vet_base.proofs.closures.Closures.lead_on.Given as goal

abbrev pub invariant-loop-from : goal.invariant-loop-from
invariant-loop-from l = record {
  long : length l.self.closed ≡ most;
  below : (p : ℕ) → p < l.from → get_or l.self.closed p set.empty
      ≡ led_on l.place l.to (get_or l.initial.self.closed p set.empty);
  rest : (p : ℕ) → l.from ≤ p → get_or l.self.closed p set.empty ≡ get_or l.initial.self.closed p set.empty;
}
