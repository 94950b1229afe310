use Rattle.std.proofs.Common.{rules, ◌≡◌, subst, IfOk}
use Rattle.std.specs.Ordering.{is_lt}
use Rattle.std.proofs.lemmas.Fn.{always_returns_same}
use Rattle.std.proofs.lemmas.List.MinMax.{ranks_by}
use Rattle.vet_base.proofs.KeyedLemmas.{all_set-sorted}
use Rattle.vet_base.proofs.keyed.Keyed.of.Goals as goal

pub returns : goal.returns
returns g c =
    let cmp = g.T.Key.Ord.cmp in
    let key = g.T.HasKey.key_of in
    let total = g.met.T.Key.Ord.total in
    let stable = c.sort_by.ensures.stable (λ x y. is_lt (cmp (key x) (key y))) (ranks_by total key)
    (always_returns_same _ _ _ (λ a r f k. search rules)) in
    let same = all_set-sorted cmp total g.met.T.Key.Exact.only_equal key c.args.items.items c.sort_by.new.self.items
    stable in
    subst (λ all. IfOk c.set_one_by_one.result (λ k. k.items ≡ all)) same c.set_one_by_one.ensures
