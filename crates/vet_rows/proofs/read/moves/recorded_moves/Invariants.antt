-- The moves so far.
use Rattle.std.proofs.Common.{◌≡◌}
use Rattle.vet_rows.proofs.read.moves.recorded_moves.Given as goal

abbrev pub invariant-ordered : goal.invariant-ordered
invariant-ordered l = l.moves.items ≡ l.yielded
