use Rattle.std.proofs.Common.{sym, ap, ◌∙◌}
use Rattle.std.specs.List.{remove}
use Rattle.vet_base.proofs.KeyedLemmas.{item_at, no_item, taken_at}
use Rattle.vet_base.proofs.KeyedParts.{without_none}
use Rattle.vet_base.proofs.keyed.Keyed.take.Goals as goal

pub returns-in-Ok-clause-item : goal.returns-in-Ok-clause-item
returns-in-Ok-clause-item g c =
    let same = ap (λ k. k.items) c.self.view_is in
    sym (item_at g.T.Key.Ord.cmp g.met.T.Key.Ord.total g.met.T.Key.Exact.only_equal g.T.HasKey.key_of
    c.args.self.now.items c.args.key.now c.in-Ok.place c.remove.result c.place_of.ensures.by_key
    c.in-Ok.ensures.place (rw same at (sym c.remove.ensures.value)))

pub returns-in-Ok-clause-items : goal.returns-in-Ok-clause-items
returns-in-Ok-clause-items g c =
    c.remove.ensures.items ∙ ap (λ k. remove k.items c.in-Ok.place) c.self.view_is
    ∙ taken_at g.T.Key.Ord.cmp g.met.T.Key.Ord.total g.met.T.Key.Exact.only_equal g.T.HasKey.key_of
    c.args.self.now.items c.args.key.now c.in-Ok.place c.place_of.ensures.by_key c.in-Ok.ensures.place

pub returns-in-Err-clause-item : goal.returns-in-Err-clause-item
returns-in-Err-clause-item g c =
    sym (no_item g.T.Key.Ord.cmp g.met.T.Key.Ord.total g.met.T.Key.Exact.only_equal g.T.HasKey.key_of
    c.args.self.now.items c.args.key.now c.in-Err.field-0 c.in-Err.ensures.place)

pub returns-in-Err-clause-items : goal.returns-in-Err-clause-items
returns-in-Err-clause-items g c =
    let none = no_item g.T.Key.Ord.cmp g.met.T.Key.Ord.total g.met.T.Key.Exact.only_equal g.T.HasKey.key_of
    c.args.self.now.items c.args.key.now c.in-Err.field-0 c.in-Err.ensures.place in
    sym (without_none g.T.Key.Ord.cmp g.T.HasKey.key_of c.args.self.now.items c.args.key.now none)
