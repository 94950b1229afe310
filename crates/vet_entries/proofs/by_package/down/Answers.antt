use Rattle.std.proofs.Common.{sym, arith}
use Rattle.vet_entries.proofs.Places.{down_above, down_below}
use Rattle.vet_entries.proofs.by_package.down.Goals as goal

pub returns-then-at-place : goal.returns-then-at-place
returns-then-at-place c = omega (arith, down_above c.args.at c.args.place (omega arith))

pub returns-else-at-place : goal.returns-else-at-place
returns-else-at-place c = sym (down_below c.args.at c.args.place (omega arith))
