-- What a question to the desk finds and leaves of a register.
use Rattle.std.proofs.Common.{◌≡◌, ◌≤◌, Bool, false, sym, ap, subst, ◌∙◌, arith}
use Rattle.vet_desk.specs.declared.command.DeskCommand.{DeskCommand}
use Rattle.vet_desk.specs.DeskVerdict.{desk_held}
use Rattle.vet_desk.specs.DeskView.{DeskView, KeepsDeskChanges}
use Rattle.vet_register.specs.Held.{HoldsRoomOf}
use Rattle.vet_register.specs.RegisterView.{RegisterView, desk_room}

-- a command that was found not to be held isn't
pub not_at_desk : {K : Type 0} (was now : RegisterView K) (command : DeskCommand) (b : Bool) → was ≡ now
    → b ≡ desk_held was.state.desk command → b ≡ false → desk_held now.state.desk command ≡ false
not_at_desk {K} was now command b same is none =
    ap (λ (r : RegisterView K). desk_held r.state.desk command) (sym same) ∙ sym is ∙ none

-- where the desk alone changes, and loses no room, none is lost
pub desk_room_stays : {K : Type 0} (was now : RegisterView K) (desk : DeskView) → was ≡ now
    → KeepsDeskChanges (desk_room was) desk
    → HoldsRoomOf now.room.held was.room.held
    × ((now.room.moves ≤ was.room.moves) × KeepsDeskChanges (desk_room now) desk)
desk_room_stays {K} was now desk same keeps =
    subst (λ (r : RegisterView K). HoldsRoomOf r.room.held was.room.held
    × ((r.room.moves ≤ was.room.moves) × KeepsDeskChanges (desk_room r) desk)) same (
      ((omega arith, (omega arith, omega arith)), (omega arith, omega arith)),
      (omega arith, keeps),
    )
