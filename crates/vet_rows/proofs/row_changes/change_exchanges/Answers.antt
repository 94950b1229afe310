use Rattle.std.proofs.Common.{◌∷◌, ◌∙◌, [], Option, ap}
use Rattle.vet_register.specs.declared.change.DeskEdit.{DeskEdit}
use Rattle.vet_register.specs.declared.held.HeldEdit.{HeldEdit}
use Rattle.vet_rows.specs.DayChanges.{day_exchanges}
use Rattle.vet_rows.specs.DeskChanges.{desk_exchanges}
use Rattle.vet_rows.specs.HeldChanges.{held_exchanges}
use Rattle.vet_rows.specs.StandingChanges.{move_exchanges}
use Rattle.vet_rows.specs.declared.row_changes.exchange.Exchange.{Exchange}
use Rattle.vet_rows.proofs.Pushed.{pushed}
use Rattle.vet_rows.proofs.row_changes.change_exchanges.Goals as goal

pub returns : goal.returns
returns g c =
    let held = c.args.register.now.state.held in
    pushed
    (pushed
    (pushed
    (pushed (c.in_ok-exchanges.ensures.items ∙ ap (λ (e : Exchange). e ∷ []) c.in_ok-meta.ensures)
    (c.in_ok-held.ensures ∙ ap (λ (e : HeldEdit). held_exchanges e held) c.edit.ensures) c.in_ok-append.ensures.items)
    (c.in_ok-moves.ensures ∙ ap move_exchanges c.recording.ensures) c.in_ok-append-2.ensures.items)
    (c.in_ok-desk.ensures
    ∙ ap (λ (e : Option DeskEdit). desk_exchanges e c.desk-2.result.now.content) c.desk.ensures
    ∙ ap (desk_exchanges c.args.change.now.desk) c.desk-2.ensures) c.in_ok-append-3.ensures.items)
    (c.in_ok-days.ensures ∙ ap (λ (e : HeldEdit). day_exchanges e held) c.edit-2.ensures) c.in_ok-append-4.ensures.items
