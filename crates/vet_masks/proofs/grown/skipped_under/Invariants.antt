-- The flags of the versions so far.
use Rattle.std.proofs.Common.{◌≡◌, map, take}
use Rattle.vet_masks.specs.Rules.{skips}
use Rattle.vet_masks.proofs.grown.skipped_under.Given as goal

abbrev pub invariant-versions : goal.invariant-versions
invariant-versions l = l.flags.items ≡ map (skips l.rule) (take l.place l.exempt.numbers.items)
