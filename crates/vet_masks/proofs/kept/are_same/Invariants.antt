-- The violations so far are the same.
use Rattle.std.proofs.Common.{◌≡◌, take}
use Rattle.vet_masks.proofs.kept.are_same.Given as goal

abbrev pub invariant-violations : goal.invariant-violations
invariant-violations l = take l.place l.held ≡ take l.place l.violations
