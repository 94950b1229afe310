use Rattle.std.proofs.Common.{Ok, ap, refl, subst}
use Rattle.std.proofs.lemmas.Result.{err_from_is_err_and}
use Rattle.vet_base.specs.Gives.{Answers}
use Rattle.vet_desk.specs.declared.verdict.DeskAnswer.TheVariants.{Accepted}
use Rattle.vet_desk.specs.DeskVerdict.{desk_verdict}
use Rattle.vet_base.proofs.Telling.{answered}
use Rattle.vet_desk.proofs.Told.{tells_change, tells_refusal}
use Rattle.vet_desk.proofs.desk.Desk.prepare.Goals as goal

pub returns-in_err-judge-clause-told : goal.returns-in_err-judge-clause-told
returns-in_err-judge-clause-told c =
    let passed = err_from_is_err_and c.from_residual.result c.from_residual.ensures.1 in
    rw (passed.1, passed.2) (tells_refusal _ _ c.in_err-judge.ensures)

pub returns-in_ok-change-in-Accepted-clause-told : goal.returns-in_ok-change-in-Accepted-clause-told
returns-in_ok-change-in-Accepted-clause-told c =
    let told = desk_verdict c.args.criteria.now c.args.demand.now c.args.self.now.content c.args.command.now in
    tells_change told _ (answered told Accepted
    (subst (Answers told) (ap Ok c.in-Accepted.is) c.in_ok-judge.ensures)) refl
