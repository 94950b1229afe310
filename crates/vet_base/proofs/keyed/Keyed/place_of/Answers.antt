use Rattle.std.proofs.Common.{rules, ap, ◌∙◌}
use Rattle.std.proofs.lemmas.Fn.{always_returns_same}
use Rattle.vet_base.proofs.KeyedLemmas.{place_found}
use Rattle.vet_base.proofs.keyed.Keyed.place_of.Goals as goal

pub returns-clause-place : goal.returns-clause-place
returns-clause-place g c =
    let key = c.args.key.now in
    let e = c.binary_search_by.ensures in
    let at = e.position (λ (held : g.row.T.Denot). g.T.Key.Ord.cmp (g.T.HasKey.key_of held) key)
    (always_returns_same _ _ _ (λ a r f k. search rules)) in
    let held = c.deref.ensures.value in
    let place = place_found g.T.Key.Ord.cmp g.met.T.Key.Ord.total g.met.T.Key.Exact.only_equal g.T.HasKey.key_of
    c.deref.result.now key c.binary_search_by.result (rw held c.self.invariant) e.bound at in
    rw (held ∙ ap (λ k. k.items) c.self.view_is) at place
