use Rattle.std.proofs.Common.{sym, ◌∙◌}
use Rattle.vet_base.specs.Defined.{lesser}
use Rattle.vet_base.proofs.LeastNames.{least_of_none}
use Rattle.vet_demand.proofs.Naming.{least_passed_more}
use Rattle.vet_demand.proofs.policy_names.least_passed.Goals as goal

pub items-init : goal.items-init
items-init c = sym (least_of_none c.args.criteria.now)

pub items-preserved : goal.items-preserved
items-preserved c =
    c.lesser-least.ensures
    ∙ (λ i. lesser (c.items.invariant i) (c.least_unknown.ensures i))
    ∙ least_passed_more c.args.criteria.now c.args.items.now c.items.item-index c.item-item.result
    c.items-test.true c.item-item.is
