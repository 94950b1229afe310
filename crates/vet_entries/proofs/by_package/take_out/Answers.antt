use Rattle.std.proofs.Common.{◌≡◌, length, arith, ap, rules}
use Rattle.std.specs.List.{filter}
use Rattle.std.proofs.lemmas.Fn.{filter_same}
use Rattle.vet_entries.proofs.Removed.{removed, one_less, stays}
use Rattle.vet_entries.proofs.by_package.take_out.Goals as goal

kept : (c : goal.After-close_gap) → c.retain.new.self.items ≡ filter (stays c.args.place) c.args.order.now.items
kept c = filter_same _ (stays c.args.place) _ (λ x b q k. search rules) c.args.order.now.items
    c.retain.new.self.items c.retain.ensures.filtered

pub returns-else-place-entries-clause-by_package : goal.returns-else-place-entries-clause-by_package
returns-else-place-entries-clause-by_package c =
    rw (c.close_gap.ensures.items, kept c)
    (removed c.args.entries.now c.args.order.now.items c.args.place c.requires.place c.requires.by_package)

pub returns-else-place-entries-clause-len : goal.returns-else-place-entries-clause-len
returns-else-place-entries-clause-len c =
    let one = one_less c.args.entries.now c.args.order.now.items c.args.place c.requires.place c.requires.by_package in
    omega (arith, one, ap length (kept c), c.close_gap.ensures.len)
