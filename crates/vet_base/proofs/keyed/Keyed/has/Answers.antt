use Rattle.std.proofs.Common.{◌∙◌}
use Rattle.vet_base.proofs.KeyedLemmas.{found_or_not}
use Rattle.vet_base.proofs.keyed.Keyed.has.Goals as goal

pub returns : goal.returns
returns g c =
    c.is_ok.ensures.value
    ∙ found_or_not g.T.Key.Ord.cmp g.met.T.Key.Ord.total g.met.T.Key.Exact.only_equal g.T.HasKey.key_of
    c.args.self.now.items c.args.key.now c.place_of.result c.place_of.ensures.place
