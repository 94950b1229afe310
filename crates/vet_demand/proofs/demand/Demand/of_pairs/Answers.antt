use Rattle.std.proofs.Common.{◌∙◌}
use Rattle.vet_demand.proofs.DemandLemmas.{are_the_pairs}
use Rattle.vet_demand.proofs.demand.Demand.of_pairs.Goals as goal

pub returns-clause-pairs : goal.returns-clause-pairs
returns-clause-pairs c =
    let lent = c.as_mut_slice.ensures in
    let e = c.in_ok-sort.ensures in
    are_the_pairs c.args.pairs.len _ _ _ _ lent.value (e.len ∙ lent.len)
    e.permutation e.sorted c.dedup.ensures.filtered

pub invariant_of-result : goal.invariant_of-result
invariant_of-result c =
    let lent = c.as_mut_slice.ensures in
    let e = c.in_ok-sort.ensures in
    (are_the_pairs c.args.pairs.len _ _ _ _ lent.value (e.len ∙ lent.len)
    e.permutation e.sorted c.dedup.ensures.filtered).in_order
