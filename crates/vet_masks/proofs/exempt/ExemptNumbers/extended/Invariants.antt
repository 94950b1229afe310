-- The exempt steps so far have numbers.
use Rattle.std.proofs.Common.{◌≡◌, length, take}
use Rattle.vet_masks.specs.Exempt.{AreExemptNumbers}
use Rattle.vet_masks.proofs.exempt.ExemptNumbers.extended.Given as goal

abbrev pub invariant-steps : goal.invariant-steps
invariant-steps l = record {
  versions : length l.exempt.numbers.items ≡ length l.index.after.items;
  numbers : AreExemptNumbers (take l.place l.index.ends.items) l.exempt;
}
