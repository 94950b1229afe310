use Rattle.std.proofs.Common.{subst, sym, ap, ◌∙◌, is_some, Ok, Err}
use Rattle.std.proofs.lemmas.Bool.{false≢true}
use Rattle.vet_base.specs.Keyed.{IsPlace}
use Rattle.vet_base.proofs.KeyedLemmas.{no_item, put_at, set_at}
use Rattle.vet_base.proofs.keyed.Keyed.edit_setting.Goals as goal

pub returns-in-Ok-clause-edit : goal.returns-in-Ok-clause-edit
returns-in-Ok-clause-edit g c =
    let place = subst (λ k. IsPlace g.T.Key.Ord.cmp g.T.HasKey.key_of c.args.self.now.items k (Ok c.in-Ok.place))
    c.key.ensures c.in-Ok.ensures.place in
    set_at g.T.Key.Ord.cmp g.met.T.Key.Ord.total g.met.T.Key.Exact.only_equal g.T.HasKey.key_of c.args.self.now.items
    c.args.item c.in-Ok.place c.place_of.ensures.by_key place

pub returns-in-Err-clause-edit : goal.returns-in-Err-clause-edit
returns-in-Err-clause-edit g c =
    let place = subst (λ k. IsPlace g.T.Key.Ord.cmp g.T.HasKey.key_of c.args.self.now.items k (Err c.in-Err.place))
    c.key.ensures c.in-Err.ensures.place in
    put_at g.T.Key.Ord.cmp g.met.T.Key.Ord.total g.met.T.Key.Exact.only_equal g.T.HasKey.key_of c.args.self.now.items
    c.args.item c.in-Err.place place

pub returns-in-Err-clause-held : goal.returns-in-Err-clause-held
returns-in-Err-clause-held g c held =
    let place = subst (λ k. IsPlace g.T.Key.Ord.cmp g.T.HasKey.key_of c.args.self.now.items k (Err c.in-Err.place))
    c.key.ensures c.in-Err.ensures.place in
    absurd (false≢true (sym
    (ap is_some (no_item g.T.Key.Ord.cmp g.met.T.Key.Ord.total g.met.T.Key.Exact.only_equal g.T.HasKey.key_of
    c.args.self.now.items (g.T.HasKey.key_of c.args.item) c.in-Err.place place)) ∙ held))
