use Rattle.std.proofs.Common.{◌≤◌, ◌<◌, length, sym, ap, subst, ◌∙◌, arith, Err}
use Rattle.std.specs.List.{remove}
use Rattle.vet_base.specs.Keyed.{IsPlace}
use Rattle.vet_base.proofs.KeyedLemmas.{taken_place}
use Rattle.vet_base.proofs.ListLemmas.{remove-insert, set_back}
use Rattle.vet_base.proofs.keyed.Keyed.apply.Goals as goal

pub returns-in-Put-clause-back : goal.returns-in-Put-clause-back
returns-in-Put-clause-back g c =
    let asked = rw c.in-Put.is at c.requires in
    let within : c.in-Put.place ≤ length c.self.inside.items.items =
    omega (arith, asked.0.0, ap (λ k. length k.items) c.self.view_is) in
    ap (λ xs. remove xs c.in-Put.place) c.put.ensures.items
    ∙ remove-insert c.self.inside.items.items c.in-Put.place c.in-Put.item within ∙ ap (λ k. k.items) c.self.view_is

pub returns-in-Take-clause-fits : goal.returns-in-Take-clause-fits
returns-in-Take-clause-fits g c =
    let items = c.self.inside.items.items in
    let asked = rw c.in-Take.is at c.requires in
    let within : c.in-Take.place < length items = omega (arith, asked, ap (λ k. length k.items) c.self.view_is) in
    let place = taken_place g.T.Key.Ord.cmp g.met.T.Key.Ord.total g.met.T.Key.Exact.only_equal g.T.HasKey.key_of items
    c.in-Take.place c.remove.result c.self.invariant within c.remove.ensures.value in (
      subst (λ xs. IsPlace g.T.Key.Ord.cmp g.T.HasKey.key_of xs (g.T.HasKey.key_of c.remove.result)
          (Err c.in-Take.place)) (sym c.remove.ensures.items) place,
      omega (arith, c.remove.ensures.len, c.remove.ensures.capacity, c.self.ranges, within),
    )

pub returns-in-Swap-clause-back : goal.returns-in-Swap-clause-back
returns-in-Swap-clause-back g c =
    set_back c.self.inside.items.items c.in-Swap.place c.replace.new.dest c.replace.result
    (rw (sym c.replace.ensures.value) at c.index_mut.ensures.value)
    ∙ ap (λ k. k.items) c.self.view_is
