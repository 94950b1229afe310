use Rattle.std.proofs.Common.{◌≡◌, ◌∙◌, ap, subst, Ok, Err}
use Rattle.std.proofs.lemmas.Result.{err_from_is_err_and}
use Rattle.vet_desk.specs.declared.verdict.DeskAnswer.TheVariants as at_desk
use Rattle.vet_desk.specs.DeskVerdict.{desk_verdict}
use Rattle.vet_desk.specs.DeskView.{TellsDesk}
use Rattle.vet_register.specs.RegisterView.{RegisterView}
use Rattle.vet_register.specs.State.{demanded}
use Rattle.vet_register.proofs.AskingDesk.{desk_accepts}
use Rattle.vet_register.proofs.DeskAsked.{desk_room_stays}
use Rattle.vet_register.proofs.register.Register.desk_change.Goals as goal

pub returns-in_err-change-clause-memory : goal.returns-in_err-change-clause-memory
returns-in_err-change-clause-memory g c =
    let state = c.args.self.now.state in
    let command = c.args.command.now in
    let passed = err_from_is_err_and c.from_residual.result c.from_residual.ensures.1 in
    let accepts : desk_verdict c.criteria-criteria.result.now c.self.inside.demand c.self.inside.desk.content command
    ≡ Ok at_desk.Accepted =
    ap (λ t. desk_verdict t c.self.inside.demand c.self.inside.desk.content command) c.criteria-criteria.ensures.value
    ∙ ap (λ d. desk_verdict c.self.inside.held.facts.content.criteria d c.self.inside.desk.content command)
    c.self.invariant.0.0.1.1
    ∙ ap (λ (r : RegisterView _). desk_verdict r.state.held.facts.criteria (demanded r.state) r.state.desk command)
    c.self.view_is
    ∙ desk_accepts state command c.requires.new c.requires.asked in
    rw (passed.1, passed.2)
    (subst (λ t. TellsDesk t (Err c.in_err-change.field-0.0)) accepts c.in_err-change.ensures.told)

pub returns-in_err-change-clause-room_stays : goal.returns-in_err-change-clause-room_stays
returns-in_err-change-clause-room_stays g c =
    desk_room_stays _ _ c.prepare.new.self c.self.view_is c.in_err-change.ensures.prepared_stays

pub returns-clause-room_stays : goal.returns-clause-room_stays
returns-clause-room_stays g c =
    desk_room_stays _ _ c.prepare.new.self c.self.view_is c.in_ok-change.ensures.prepared_stays
