use Rattle.std.proofs.Common.{ap, ◌∙◌}
use Rattle.vet_base.specs.Criteria.{least_unknown}
use Rattle.vet_base.specs.Defined.{lesser}
use Rattle.vet_demand.proofs.Naming.{least-names_in}
use Rattle.vet_demand.specs.PolicyNames.{names_passed}
use Rattle.vet_demand.proofs.policy_names.least_unknown_of.Goals as goal

pub returns : goal.returns
returns c =
    c.lesser-2.ensures
    ∙ (λ i. lesser ((c.lesser.ensures ∙ λ j. lesser (c.least_listed-own.ensures j) (c.least_listed-dev.ensures j)) i)
    ((c.least_passed-passed.ensures ∙ ap (λ items. least_unknown c.args.criteria.now (names_passed items))
    c.items.ensures.value) i))
    ∙ least-names_in c.args.policy.now c.args.criteria.now
