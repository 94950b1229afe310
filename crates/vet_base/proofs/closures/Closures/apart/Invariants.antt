-- The first of them stand by themselves.
use Rattle.std.proofs.Common.{◌≡◌, ℕ, ◌<◌, ◌≤◌, get_or, length}
use Rattle.std.specs.FinSet as set
use Rattle.vet_base.specs.declared.limits.TheConstants.{MOST_CRITERIA as most}
use Rattle.vet_base.proofs.closures.Closures.apart.Given as goal

abbrev pub invariant-loop-place : goal.invariant-loop-place
invariant-loop-place l = record {
  long : length l.closed ≡ most;
  below : (p : ℕ) → p < l.place → get_or l.closed p set.empty ≡ set.insert set.empty p;
  rest : (p : ℕ) → l.place ≤ p → get_or l.closed p set.empty ≡ set.empty;
}
