use Rattle.std.proofs.Common.{◌≡◌, ◌∙◌, ◌-◌, ap, subst, sym, Some, length, slice_get}
use Rattle.vet_base.specs.Keyed.{IsByKey}
use Rattle.vet_base.proofs.KeyedParts.{behind_last, less}
use Rattle.vet_base.proofs.keyed.Keyed.is_behind_all.Goals as goal

pub returns-in-Some : goal.returns-in-Some
returns-in-Some g c told =
    let cmp = g.T.Key.Ord.cmp in
    let key = g.T.HasKey.key_of in
    let items = c.args.self.now.items in
    let held = c.deref.ensures.value ∙ ap (λ k. k.items) c.self.view_is in
    let at : slice_get items (length items - 1) ≡ Some c.in-Some.last.now =
    subst (λ xs. slice_get xs (length xs - 1) ≡ Some c.in-Some.last.now) held (sym c.in-Some.ensures.value) in
    let up = subst (IsByKey cmp key) (ap (λ k. k.items) c.self.view_is) c.self.invariant in
    behind_last cmp g.met.T.Key.Ord.total key items c.args.key.now c.in-Some.last.now up at
    (ap (λ k. cmp k c.args.key.now) (sym c.key.ensures) ∙ sym c.cmp.ensures
    ∙ less c.cmp.result (sym c.is_lt.ensures ∙ told))
