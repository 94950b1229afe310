use Rattle.std.proofs.Common.{sym, ap, ◌∙◌}
use Rattle.std.specs.FinSet as set
use Rattle.vet_base.proofs.Rising.{R}
use Rattle.vet_demand.specs.PolicyNames.{names_listed}
use Rattle.vet_demand.proofs.policy_names.is_listed.Goals as goal

pub returns-in-None : goal.returns-in-None
returns-in-None c = sym (ap (λ o. set.contains (names_listed o) c.args.name.now) c.in-None.is
    ∙ set.contains-empty R c.args.name.now)
