use Rattle.std.proofs.Common.{subst, sym, ap, ◌∙◌, is_some, Ok, Err}
use Rattle.std.proofs.lemmas.Bool.{false≢true}
use Rattle.vet_base.specs.Keyed.{IsPlace}
use Rattle.vet_base.proofs.KeyedLemmas.{found_or_not, put_keeps, put_seen}
use Rattle.vet_base.proofs.keyed.Keyed.put_reserved.Goals as goal

pub unreachable-requires : goal.unreachable-requires
unreachable-requires g c =
    let place = subst (λ k. IsPlace g.T.Key.Ord.cmp g.T.HasKey.key_of c.args.self.now.items k (Ok c.in-Ok.field-0))
    c.key.ensures c.in-Ok.ensures.place in
    let found = found_or_not g.T.Key.Ord.cmp g.met.T.Key.Ord.total g.met.T.Key.Exact.only_equal g.T.HasKey.key_of
    c.args.self.now.items (g.T.HasKey.key_of c.args.item) (Ok c.in-Ok.field-0) place in
    false≢true (sym (ap is_some c.requires.new) ∙ sym found)

pub invariant_of-self : goal.invariant_of-self
invariant_of-self g c =
    let place = subst (λ k. IsPlace g.T.Key.Ord.cmp g.T.HasKey.key_of c.args.self.now.items k (Err c.in-Err.place))
    c.key.ensures c.in-Err.ensures.place in
    put_keeps g.T.Key.Ord.cmp g.met.T.Key.Ord.total g.met.T.Key.Exact.only_equal g.T.HasKey.key_of
    c.self.inside.items.items c.args.self.now.items c.put.new.items.items c.args.item c.in-Err.place
    (ap (λ k. k.items) c.self.view_is) c.self.invariant place c.put.ensures.items

pub returns-clause-items : goal.returns-clause-items
returns-clause-items g c =
    let place = subst (λ k. IsPlace g.T.Key.Ord.cmp g.T.HasKey.key_of c.args.self.now.items k (Err c.in-Err.place))
    c.key.ensures c.in-Err.ensures.place in
    put_seen g.T.Key.Ord.cmp g.met.T.Key.Ord.total g.met.T.Key.Exact.only_equal g.T.HasKey.key_of
    c.self.inside.items.items c.args.self.now.items c.put.new.items.items c.args.item c.in-Err.place
    (ap (λ k. k.items) c.self.view_is) place c.put.ensures.items
