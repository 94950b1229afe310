-- What the digits so far are worth.
use Rattle.std.proofs.Common.{◌≡◌, ◌<◌, ◌^◌, take}
use Rattle.std.specs.Str.Parse.{digits_value}
use Rattle.vet_item_rows.proofs.packed.value_of.Given as goal

abbrev pub invariant-digits : goal.invariant-digits
invariant-digits l = (l.value ≡ digits_value 10 (take l.place l.digits)) × (l.value < 10 ^ l.place)
