use Rattle.std.proofs.Common.{sym, ap}
use Rattle.vet_base.proofs.KeyedLemmas.{item_at, no_item}
use Rattle.vet_base.proofs.keyed.Keyed.get.Goals as goal

pub returns-in-Ok : goal.returns-in-Ok
returns-in-Ok g c =
    let same = ap (λ k. k.items) c.self.view_is in
    let held = c.index.result.now in
    sym (item_at g.T.Key.Ord.cmp g.met.T.Key.Ord.total g.met.T.Key.Exact.only_equal g.T.HasKey.key_of
    c.args.self.now.items c.args.key.now c.in-Ok.place held c.place_of.ensures.by_key c.in-Ok.ensures.place
    (rw same at (sym c.index.ensures)))

pub returns-in-Err : goal.returns-in-Err
returns-in-Err g c =
    sym (no_item g.T.Key.Ord.cmp g.met.T.Key.Ord.total g.met.T.Key.Exact.only_equal g.T.HasKey.key_of
    c.args.self.now.items c.args.key.now c.in-Err.field-0 c.in-Err.ensures.place)
