use Rattle.std.proofs.Common.{sym}
use Rattle.vet_entries.proofs.LastRemoved.{removed_last}
use Rattle.vet_entries.proofs.by_package.take_out_last.Goals as goal

pub overflow_sub-behind : goal.overflow_sub-behind
overflow_sub-behind c =
    let range = rw (c.as_slice.ensures.value, sym c.index-entries-last.is) at c.range_of-behind.ensures in
    (removed_last c.args.entries.now c.index-entries-last.result c.args.order.now.items c.args.last _ _ c.requires.last
    c.index-entries-last.is c.requires.by_package range).0

pub returns-clause-by_package : goal.returns-clause-by_package
returns-clause-by_package c =
    let range = rw (c.as_slice.ensures.value, sym c.index-entries-last.is) at c.range_of-behind.ensures in
    rw c.remove.ensures.items
    (removed_last c.args.entries.now c.index-entries-last.result c.args.order.now.items c.args.last _ _ c.requires.last
    c.index-entries-last.is c.requires.by_package range).1
