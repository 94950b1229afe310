use Rattle.std.proofs.Common.{◌≡◌, ◌∙◌, sym, ap}
use Rattle.std.specs.Ordering.{is_eq}
use Rattle.vet_demand.specs.Pair.{pair_eq}
use Rattle.vet_demand.specs.PairLaws.{pair_eq-Decides}
use Rattle.vet_demand.proofs.pair.PairPartialEq.eq.Goals as goal

pub returns-clause-same : goal.returns-clause-same
returns-clause-same c =
    let value : c.is_eq.result ≡ pair_eq c.args.self.now c.args.other.now = c.is_eq.ensures ∙ ap is_eq c.cmp.ensures in
    let decides = pair_eq-Decides c.args.self.now c.args.other.now in
    (λ yes. decides.0 (sym value ∙ yes), λ same. value ∙ decides.1 same)
