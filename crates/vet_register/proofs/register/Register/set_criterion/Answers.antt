use Rattle.std.proofs.Common.{◌∙◌, ap, refl, subst}
use Rattle.std.specs.FinMap as map
use Rattle.vet_base.specs.Criteria.{IsTable}
use Rattle.vet_base.specs.CriteriaChanges.{set_verdict}
use Rattle.vet_register.specs.declared.command.Action.TheVariants as action
use Rattle.vet_register.proofs.Asking.{effective, some_day, set_passed}
use Rattle.vet_register.proofs.AskingEdits.{accepts, none_given, of_facts_is_still, passed_on, state_before}
use Rattle.vet_register.proofs.AskingEdits.{told_before}
use Rattle.vet_register.proofs.register.Register.set_criterion.Goals as goal

pub returns-in_err-number-clause-asked : goal.returns-in_err-number-clause-asked
returns-in_err-number-clause-asked g c day = passed_on _ _ _ _ _ _ c.from_residual.ensures.1
    (c.in_err-number.ensures day)

pub with_criterion-requires : goal.with_criterion-requires
with_criterion-requires g c =
    let criterion = c.args.criterion.now in
    ap (λ t. set_verdict t criterion) c.criteria.ensures.value ∙ set_passed (state_before c.self.view_is) some_day
    criterion
    (told_before c.self.view_is some_day (action.SetCriterion criterion)
    (accepts (c.in_ok-number.ensures some_day) c.in_default.is))

pub returns-clause-asked : goal.returns-clause-asked
returns-clause-asked g c day =
    let criterion = c.args.criterion.now in
    let facts = c.self.inside.held.facts.content in
    let made = c.edit_of_criteria.ensures in
    let table = c.in_ok-table.ensures.ok ∙ ap (λ t. map.insert t criterion.name criterion) c.criteria.ensures.value in
    let asks = action.SetCriterion criterion in
    let told = accepts (c.in_ok-number.ensures day) c.in_default.is in
    effective _ day asks _ _ told (of_facts_is_still c.self.view_is c.self.invariant.1 day asks tt told refl _ _
    (made.edit ∙ λ i. record facts { criteria = table i }) refl (subst IsTable table c.in_ok-table.ensures.table)
    c.self.invariant.1.held.facts.publishers _ _ refl refl (none_given refl) made.fits)
