use Rattle.std.proofs.Common.{ap, ◌∙◌, sym, []}
use Rattle.vet_base.specs.Keyed.{with_item}
use Rattle.vet_base.proofs.KeyedLemmas.{all_set-push}
use Rattle.vet_base.proofs.keyed.set_one_by_one.Goals as goal

pub loop-item-preserved : goal.loop-item-preserved
loop-item-preserved g c =
    let cmp = g.T.Key.Ord.cmp in
    let key = g.T.HasKey.key_of in
    c.in_ok-insert.ensures.ok ∙ ap (λ held. with_item cmp key held c.in-Some.item) c.loop-item.invariant
    ∙ sym (all_set-push cmp g.met.T.Key.Ord.total g.met.T.Key.Exact.only_equal key [] c.loop-item.yielded
    c.in-Some.item)
