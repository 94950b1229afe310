-- The bytes so far are digits.
use Rattle.std.proofs.Common.{length, ◌-◌, ◌≤◌, take}
use Rattle.std.specs.Str.Parse.{AllDigits}
use Rattle.vet_item_rows.proofs.packed.digits_in_front.Given as goal

abbrev pub invariant-digits : goal.invariant-digits
invariant-digits l = (l.place ≤ length l.bytes) × AllDigits 10 (take l.place l.bytes)

abbrev pub decreases-digits : goal.decreases-digits
decreases-digits l = length l.bytes - l.place
