use Rattle.std.proofs.Common.{rules}
use Rattle.vet_base.proofs.ReqLemmas.{views_alike}
use Rattle.vet_base.proofs.req.ReqClone.clone.Goals as goal

pub invariant_of-result : goal.invariant_of-result
invariant_of-result c =
    let copied = c.in_ok-clone-2.ensures.cases.0 in
    let mine = c.self.inside.req.comparators.items in
    let theirs = c.in_ok-clone-2.field-0.comparators.items in
    let views = views_alike mine theirs copied (λ x y same. search rules) in
    let same = c.in_ok-clone.ensures.cases in
    (rw same c.self.invariant.0, rw (same, views) c.self.invariant.1)
