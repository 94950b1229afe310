use Rattle.std.proofs.Common.{sym, ap, ◌∙◌, subst}
use Rattle.std.proofs.lemmas.List.{take_all}
use Rattle.std.specs.Option.{option_copied}
use Rattle.vet_demand.specs.DemandOf.{PoliciesAreKnown}
use Rattle.trial_values.proofs.KnownPolicies.{known_more}
use Rattle.trial_values.proofs.known.check_policies.Goals as goal

pub policies-preserved : goal.policies-preserved
policies-preserved c =
    known_more c.args.criteria.now c.args.policies.now c.policies.held-index c.held-item.result c.policies-test.true
    c.held-item.is c.policies.invariant
    (sym c.least_unknown_of.ensures ∙ ap option_copied c.in_default.is)

pub returns : goal.returns
returns c = subst (PoliciesAreKnown c.args.criteria.now)
    (take_all c.policies.held-index c.args.policies.now c.policies-test.false) c.policies.invariant
