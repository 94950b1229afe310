use Rattle.std.proofs.Common.{sym, ap, is_none, Ok}
use Rattle.vet_base.proofs.KeyedLemmas.{found_or_not, no_item, taken_at}
use Rattle.vet_base.proofs.ListLemmas.{none_of_some}
use Rattle.vet_base.proofs.keyed.Keyed.edit_dropping.Goals as goal

pub returns-in-Ok-clause-none : goal.returns-in-Ok-clause-none
returns-in-Ok-clause-none g c =
    sym (none_of_some _
    (sym (found_or_not g.T.Key.Ord.cmp g.met.T.Key.Ord.total g.met.T.Key.Exact.only_equal g.T.HasKey.key_of
    c.args.self.now.items c.args.key.now (Ok c.in-Ok.place) c.in-Ok.ensures.place)))

pub returns-in-Ok-clause-edit : goal.returns-in-Ok-clause-edit
returns-in-Ok-clause-edit g c =
    taken_at g.T.Key.Ord.cmp g.met.T.Key.Ord.total g.met.T.Key.Exact.only_equal g.T.HasKey.key_of c.args.self.now.items
    c.args.key.now c.in-Ok.place c.place_of.ensures.by_key c.in-Ok.ensures.place

pub returns-in-Err-clause-none : goal.returns-in-Err-clause-none
returns-in-Err-clause-none g c =
    sym (ap is_none (no_item g.T.Key.Ord.cmp g.met.T.Key.Ord.total g.met.T.Key.Exact.only_equal g.T.HasKey.key_of
    c.args.self.now.items c.args.key.now c.in-Err.field-0 c.in-Err.ensures.place))
