use Rattle.std.proofs.Common.{◌≡◌, ◌∙◌, sym, ap}
use Rattle.std.specs.Ordering.{is_eq}
use Rattle.vet_demand.specs.PolicyKey.{policy_key_eq}
use Rattle.vet_demand.specs.PolicyKeyLaws.{policy_key_eq-Decides}
use Rattle.vet_demand.proofs.policy_key.PolicyKeyPartialEq.eq.Goals as goal

pub returns-clause-same : goal.returns-clause-same
returns-clause-same c =
    let decides = policy_key_eq-Decides c.args.self.now c.args.other.now in
    let value : c.is_eq.result ≡ policy_key_eq c.args.self.now c.args.other.now =
    c.is_eq.ensures ∙ ap is_eq c.cmp.ensures in
    (λ tied. decides.0 (sym value ∙ tied), λ same. value ∙ decides.1 same)
