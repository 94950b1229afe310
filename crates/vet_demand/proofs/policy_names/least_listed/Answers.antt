use Rattle.std.proofs.Common.{sym, ap, ◌∙◌}
use Rattle.vet_base.proofs.LeastNames.{least_of_none}
use Rattle.vet_base.specs.Criteria.{least_unknown}
use Rattle.vet_demand.specs.PolicyNames.{names_listed}
use Rattle.vet_demand.proofs.policy_names.least_listed.Goals as goal

pub returns-in-None : goal.returns-in-None
returns-in-None c = sym (ap (λ o. least_unknown c.args.criteria.now (names_listed o)) c.in-None.is
    ∙ least_of_none c.args.criteria.now)
