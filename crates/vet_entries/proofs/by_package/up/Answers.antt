use Rattle.std.proofs.Common.{sym, arith}
use Rattle.vet_entries.proofs.Places.{up_above, up_below}
use Rattle.vet_entries.proofs.by_package.up.Goals as goal

pub returns-then-at-place : goal.returns-then-at-place
returns-then-at-place c = sym (up_above c.args.at c.args.place (omega arith))

pub returns-else-at-place : goal.returns-else-at-place
returns-else-at-place c = sym (up_below c.args.at c.args.place (omega arith))
