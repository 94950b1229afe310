use Rattle.std.proofs.Common.{sym, ◌∙◌}
use Rattle.vet_base.specs.Defined.{lesser}
use Rattle.vet_base.proofs.LeastNames.{least_of_none}
use Rattle.vet_entries.proofs.Targets.{least_target_more}
use Rattle.vet_entries.proofs.criteria_map.CriteriaMap.least_target_outside.Goals as goal

pub loop-item-init : goal.loop-item-init
loop-item-init c = sym (least_of_none c.args.table.now)

pub loop-item-preserved : goal.loop-item-preserved
loop-item-preserved c =
    c.lesser-least.ensures
    ∙ (λ i. lesser (c.loop-item.invariant i) (c.least_unknown.ensures i))
    ∙ least_target_more c.args.table.now c.items-item-items.result.now c.loop-item.item-index c.item-item.result
    c.loop-item-test.true c.item-item.is
