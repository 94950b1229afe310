use Rattle.std.proofs.Common.{◌∙◌}
use Rattle.vet_entries.proofs.Records.{are_the_records}
use Rattle.vet_entries.proofs.publishers.Publishers.of.Goals as goal

pub returns-clause-records : goal.returns-clause-records
returns-clause-records c =
    let lent = c.as_mut_slice.ensures in
    let e = c.in_ok-sort.ensures in
    are_the_records c.args.records.len _ _ _ _ lent.value (e.len ∙ lent.len) e.permutation e.sorted
    c.dedup.ensures.filtered

pub invariant_of-result : goal.invariant_of-result
invariant_of-result c =
    let lent = c.as_mut_slice.ensures in
    let e = c.in_ok-sort.ensures in
    (are_the_records c.args.records.len _ _ _ _ lent.value (e.len ∙ lent.len) e.permutation e.sorted
    c.dedup.ensures.filtered).in_order
