use Rattle.std.proofs.Common.{ap}
use Rattle.vet_base.proofs.ListLemmas.{told}
use Rattle.vet_base.proofs.keyed.KeyedPartialEq.eq.Goals as goal

pub returns-clause-same : goal.returns-clause-same
returns-clause-same g c =
    told g.met.T.ExactItem.only_itself c.eq.result _ _ c.args.self.now.items c.args.other.now.items c.eq.ensures
    (ap (λ k. k.items) c.self.view_is) (ap (λ k. k.items) c.other.view_is)
