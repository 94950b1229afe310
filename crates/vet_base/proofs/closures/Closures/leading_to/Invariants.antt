-- What leads to the set among the places so far.
use Rattle.std.proofs.Common.{◌≡◌}
use Rattle.vet_base.specs.Closures.{AreClosures}
use Rattle.vet_base.specs.Criteria.{Criteria}
use Rattle.vet_base.proofs.Meeting.{leading_below}
use Rattle.vet_base.proofs.closures.Closures.leading_to.Given as goal

abbrev pub invariant-loop-place : goal.invariant-loop-place
invariant-loop-place l = (table : Criteria) → AreClosures table l.self → l.leading ≡ leading_below table l.set l.place
