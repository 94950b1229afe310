use Rattle.std.proofs.Common.{sym, arith}
use Rattle.vet_entries.proofs.Places.{up_all_below}
use Rattle.vet_entries.proofs.by_package.make_gap.Goals as goal

pub returns-else-place-len-clause-items : goal.returns-else-place-len-clause-items
returns-else-place-len-clause-items c =
    sym (up_all_below c.args.place c.args.order.now.items
    (λ k d l. (let below = c.requires k d l in omega (arith, below, c.if-place-len.false))))
