use Rattle.std.proofs.Common.{◌≡◌, ◌∙◌, sym, ap, subst, Ok}
use Rattle.std.proofs.lemmas.Result.{err_from_is_err_and}
use Rattle.vet_base.specs.Gives.{Gives}
use Rattle.vet_desk.specs.DeskView.{IsDeskChange}
use Rattle.vet_register.specs.declared.command.Action.TheVariants as action
use Rattle.vet_register.specs.declared.verdict.Answer.TheVariants.{Accepted}
use Rattle.vet_register.specs.RegisterView.{RegisterView, desk_room}
use Rattle.vet_register.specs.Sound.{IsSound}
use Rattle.vet_register.specs.State.{State}
use Rattle.vet_register.specs.Verdict.{asked_before, judged, limits_after_rules, wants_memory}
use Rattle.vet_base.proofs.Telling.{answered}
use Rattle.vet_register.proofs.Asking.{effective, exactly}
use Rattle.vet_register.proofs.AskingDesk.{accepted_after, desk_effective, refused_before, refused_last, room_onward}
use Rattle.vet_register.proofs.DeskAsked.{not_at_desk}
use Rattle.vet_register.proofs.register.Register.ask_desk.Goals as goal

pub returns-in_err-check_command-clause-asked : goal.returns-in_err-check_command-clause-asked
returns-in_err-check_command-clause-asked g c =
    let passed = err_from_is_err_and c.from_residual.result c.from_residual.ensures.1 in
    rw (passed.1, passed.2) (refused_before _ c.args.self.now.state c.args.day c.args.command.now
    (not_at_desk _ _ c.args.command.now _ c.self.view_is c.is_held.ensures c.if-is_held.false) _
    c.in_err-check_command.ensures)

pub desk_effect-requires-clause-asked : goal.desk_effect-requires-clause-asked
desk_effect-requires-clause-asked g c =
    subst (λ (t : State). asked_before t c.args.command.now ≡ Ok tt) (sym c.desk_change.ensures.state)
    (answered _ _ c.in_ok-check_command.ensures)

pub returns-in_err-effect-clause-asked : goal.returns-in_err-effect-clause-asked
returns-in_err-effect-clause-asked g c =
    let state = c.args.self.now.state in
    let command = c.args.command.now in
    let new = not_at_desk _ _ command _ c.self.view_is c.is_held.ensures c.if-is_held.false in
    let before : asked_before state command ≡ Ok tt = answered _ _ c.in_ok-check_command.ensures in
    let passed = err_from_is_err_and c.from_residual-in_err-effect.result c.from_residual-in_err-effect.ensures.1 in
    let told = subst (λ (t : State). Gives (λ e. tt) (limits_after_rules t command) c.desk_effect.result)
    c.desk_change.ensures.state c.desk_effect.ensures.told in
    rw (passed.1, passed.2) (refused_last _ state c.args.day command new before _
    (subst (λ r. Gives (λ e. tt) (limits_after_rules state command) r) c.in_err-effect.was told))

pub returns-in_err-effect-clause-room_stays : goal.returns-in_err-effect-clause-room_stays
returns-in_err-effect-clause-room_stays g c = room_onward c.args.self.now c.desk_change.new.self
    c.desk_effect.new.self c.desk_change.ensures.room_stays c.desk_effect.ensures.room_stays

pub returns-clause-asked : goal.returns-clause-asked
returns-clause-asked g c =
    let state = c.args.self.now.state in
    let command = c.args.command.now in
    let sound : IsSound state = subst (λ (r : RegisterView _). IsSound r.state) c.self.view_is c.self.invariant.1 in
    let new = not_at_desk _ _ command _ c.self.view_is c.is_held.ensures c.if-is_held.false in
    let before : asked_before state command ≡ Ok tt = answered _ _ c.in_ok-check_command.ensures in
    let last : limits_after_rules state command ≡ Ok tt =
    ap (λ (t : State). limits_after_rules t command) (sym c.desk_change.ensures.state) ∙ c.in_ok-effect.ensures.told in
    let told : judged state c.args.day (action.Desk command) ≡ Ok Accepted = accepted_after state command c.args.day
    new before last in
    let prepared : IsDeskChange (desk_room c.desk_effect.new.self) c.args.day command c.in_ok-change.change =
    c.desk_effect.ensures.room_stays.1.1 c.args.day command c.in_ok-change.change c.in_ok-change.ensures.change in
    let is = desk_effective c.desk_effect.new.self state c.args.day command c.in_ok-change.change c.in_ok-effect.effect
    (c.desk_effect.ensures.state ∙ c.desk_change.ensures.state) sound told prepared
    (c.in_ok-effect.ensures.effect c.args.day) in
    exactly _ _ _ (wants_memory state (action.Desk command)) _ _ (effective _ _ _ _ _ told is)

pub returns-clause-room_stays : goal.returns-clause-room_stays
returns-clause-room_stays g c = room_onward c.args.self.now c.desk_change.new.self c.desk_effect.new.self
    c.desk_change.ensures.room_stays c.desk_effect.ensures.room_stays
