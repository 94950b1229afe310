-- So many numbers have so many digits.
use Rattle.std.proofs.Common.{◌≡◌, ◌⊎◌, ◌-◌, ◌^◌, ◌<◌}
use Rattle.vet_masks.proofs.rule.digits_of.Given as goal

abbrev pub invariant-digits : goal.invariant-digits
invariant-digits l = record {
  numbers : l.numbers ≡ 2 ^ l.digits;
  least : (l.digits ≡ 0) ⊎ (2 ^ (l.digits - 1) < l.count);
  most : l.digits < 65;
}

abbrev pub decreases-digits : goal.decreases-digits
decreases-digits l = l.count - l.numbers
