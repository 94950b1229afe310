use Rattle.std.proofs.Common.{subst, sym, ap, ◌∙◌, is_some, Ok, Err}
use Rattle.std.proofs.lemmas.Bool.{false≢true}
use Rattle.vet_base.specs.Keyed.{IsPlace}
use Rattle.vet_base.proofs.KeyedLemmas.{no_item, put_seen, set_seen}
use Rattle.vet_base.proofs.keyed.Keyed.insert.Goals as goal

pub returns-in_err-insert-in-Err-clause-held : goal.returns-in_err-insert-in-Err-clause-held
returns-in_err-insert-in-Err-clause-held g c held =
    let place = subst (λ k. IsPlace g.T.Key.Ord.cmp g.T.HasKey.key_of c.args.self.now.items k (Err c.in-Err.place))
    c.key.ensures c.in-Err.ensures.place in
    absurd (false≢true (sym
    (ap is_some (no_item g.T.Key.Ord.cmp g.met.T.Key.Ord.total g.met.T.Key.Exact.only_equal g.T.HasKey.key_of
    c.args.self.now.items (g.T.HasKey.key_of c.args.item) c.in-Err.place place)) ∙ held))

pub returns-in-Ok-clause-ok : goal.returns-in-Ok-clause-ok
returns-in-Ok-clause-ok g c =
    let place = subst (λ k. IsPlace g.T.Key.Ord.cmp g.T.HasKey.key_of c.args.self.now.items k (Ok c.in-Ok.place))
    c.key.ensures c.in-Ok.ensures.place in
    set_seen g.T.Key.Ord.cmp g.met.T.Key.Ord.total g.met.T.Key.Exact.only_equal g.T.HasKey.key_of
    c.self.inside.items.items c.args.self.now.items c.args.item c.in-Ok.place (ap (λ k. k.items) c.self.view_is)
    c.self.invariant place

pub returns-in_ok-insert-in-Err-clause-ok : goal.returns-in_ok-insert-in-Err-clause-ok
returns-in_ok-insert-in-Err-clause-ok g c =
    let place = subst (λ k. IsPlace g.T.Key.Ord.cmp g.T.HasKey.key_of c.args.self.now.items k (Err c.in-Err.place))
    c.key.ensures c.in-Err.ensures.place in
    put_seen g.T.Key.Ord.cmp g.met.T.Key.Ord.total g.met.T.Key.Exact.only_equal g.T.HasKey.key_of
    c.self.inside.items.items c.args.self.now.items c.insert.new.self.items c.args.item c.in-Err.place
    (ap (λ k. k.items) c.self.view_is) place c.in_ok-insert-in-Err.ensures.items
