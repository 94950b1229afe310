use Rattle.std.proofs.Common.{◌≡◌, ◌∙◌, ap, subst}
use Rattle.std.specs.BTreeMap.{get}
use Rattle.std.proofs.lemmas.List.Elements.{All-push}
use Rattle.vet_base.specs.CriteriaSet.{has}
use Rattle.vet_base.specs.VersionOrder.{version_cmp}
use Rattle.vet_entries.specs.Condemned.{condemned_by}
use Rattle.vet_entries.specs.Judge.{AreJudged}
use Rattle.vet_graph.specs.declared.guarded.GuardedStep.{GuardedStep}
use Rattle.vet_graph.proofs.Standings.{steps_push}
use Rattle.vet_graph.proofs.package_steps.guarded.Goals as goal

pub steps-preserved : goal.steps-preserved
steps-preserved c =
    let one : GuardedStep = record { step = c.in-Some.step; condemned = c.in_ok-condemned.condemned } in
    let judged : AreJudged c.as_slice.result.now (get version_cmp c.judge.new.judged) = c.in_ok-condemned.ensures.judged
    in
    rw c.in_ok-push.ensures.items (
      tt,
      tt,
      steps_push c.steps.guarded.items c.steps.yielded one c.steps.invariant.2,
      All-push (λ g. (e : _) → has e g.condemned ≡ condemned_by c.args.violations.now e g.step.target)
          c.steps.guarded.items one c.steps.invariant.3
          (λ e. c.in_ok-condemned.ensures.ok e ∙ ap (λ vs. condemned_by vs e c.in-Some.step.target)
          c.as_slice.ensures.value ∙ c.in_ok-merged.ensures.ok e c.in-Some.step.target),
      subst (λ vs. AreJudged vs (get version_cmp c.judge.new.judged)) c.as_slice.ensures.value judged,
    )
