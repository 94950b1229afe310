use Rattle.std.proofs.Common.{◌∙◌, ap, refl, subst, None, Ok}
use Rattle.std.specs.FinMap as map
use Rattle.vet_base.specs.Criteria.{IsTable}
use Rattle.vet_base.specs.CriteriaChanges.{remove_verdict}
use Rattle.vet_register.specs.declared.command.Action.TheVariants as action
use Rattle.vet_register.specs.declared.verdict.Answer.TheVariants.{Accepted}
use Rattle.vet_register.specs.Verdict.{held_or}
use Rattle.vet_base.proofs.Telling.{answered}
use Rattle.vet_register.proofs.Asking.{effective, remove_passed, some_day}
use Rattle.vet_register.proofs.AskingDesk.{refused_first}
use Rattle.vet_register.proofs.AskingEdits.{none_given, of_facts_is_still, passed_on, state_before, told_before}
use Rattle.vet_register.proofs.register.Register.remove_criterion.Goals as goal

pub without_criterion-requires : goal.without_criterion-requires
without_criterion-requires g c =
    ap (λ t. remove_verdict t c.args.name.now) c.criteria.ensures.value
    ∙ remove_passed (state_before c.self.view_is) some_day c.args.name.now
    (told_before c.self.view_is some_day (action.RemoveCriterion c.args.name.now)
    (ap (held_or None) (answered _ _ (c.in_ok-judge_removal.ensures some_day))))

pub returns-clause-asked : goal.returns-clause-asked
returns-clause-asked g c day =
    let made = c.in_ok-table.ensures in
    let table = made.ok ∙ ap (λ t. map.remove t c.args.name.now) c.criteria.ensures.value in
    let asks = action.RemoveCriterion c.args.name.now in
    let told = ap (held_or None) (answered _ _ (c.in_ok-judge_removal.ensures day)) in
    effective _ day asks _ _ told (of_facts_is_still c.self.view_is c.self.invariant.1 day asks tt told refl _ _
    (c.edit_of_criteria.ensures.edit ∙ λ i. record c.self.inside.held.facts.content { criteria = table i }) refl
    (subst IsTable table made.table) c.self.invariant.1.held.facts.publishers
    _ _ refl refl (none_given refl) c.edit_of_criteria.ensures.fits)

pub returns-in_err-judge_removal-clause-asked : goal.returns-in_err-judge_removal-clause-asked
returns-in_err-judge_removal-clause-asked g c day = passed_on _ _ _ _ _ _ c.from_residual.ensures.1
    (refused_first _ (λ _. Ok Accepted) _ (c.in_err-judge_removal.ensures day))
