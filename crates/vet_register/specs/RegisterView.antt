-- The value that a register is seen as, and prepared changes (ours). The modules State, Machine and Verdict know of no
-- room and no keeper.
--
-- A register is seen as its state, its keeper and its rooms. The rooms are those of what is held and of the desk,
-- and the number of further recorded moves that need no memory (RegisterView, Rooms). Keeper and rooms are no part
-- of the state. The keeper's standing is that of what is held, and the list of demanded pairs that the register keeps
-- is its demand (HasKept). The state after a change (changed) holds what is held after its edit, and has the desk after
-- its edit of the desk (desk_edited). It has the change's step and next number. It has the recorded moves with more
-- after them, or none and other first counts (moves_by, first_by). A change is prepared for a command in a register
-- (IsPrepared) if all of this holds. It is the command's step from this state (IsStep). That is, the verdict accepts
-- the command, and the state after the change is the next one, which is sound. Its demand, or the one before if it has
-- none, is that of the next state. The keeper was given the packages that the command touches (touched_by), and the
-- outcome is that of the command. There is room for its edit and moves (FitsMoves), the desk prepared its change there
-- (HoldsDesk), and the keeper planned the update for the next state, and has the room. A prepared change stays prepared
-- if another command is prepared in between (KeepsPrepared). An answer to a command is Already, or a change that is
-- prepared for it (answer_of, IsAnswer).
use Rattle.std.specs.Prelude.{◌≡◌, ◌⊎◌, ℕ, ◌≤◌, Bool, true, false, List, Option, Some, None, is_some, Result, Ok, Err}
use Rattle.std.specs.Prelude.{MatchResult}
use Rattle.vet_base.specs.Day.{DayValue}
use Rattle.vet_base.specs.Gives.{Refuses, Told}
use Rattle.vet_base.specs.declared.refusal.Refusal.{Refusal}
use Rattle.vet_base.specs.declared.refusal.Refusal.TheVariants.{NoMemory}
use Rattle.vet_demand.specs.declared.pair.Pair.{Pair}
use Rattle.vet_desk.specs.declared.command.DeskCommand.{DeskCommand}
use Rattle.vet_desk.specs.DeskView.{DeskRoom, DeskView, IsDeskChange, KeepsDeskChanges, entry_in}
use Rattle.vet_entries.specs.Facts.{Facts}
use Rattle.vet_graph.specs.Keeping.{Keeping}
use Rattle.vet_register.specs.declared.change.Change.{Change}
use Rattle.vet_register.specs.declared.change.DeskEdit.{DeskEdit}
use Rattle.vet_register.specs.declared.change.Prepared.{Prepared}
use Rattle.vet_register.specs.declared.change.Prepared.TheVariants as prepared
use Rattle.vet_desk.specs.declared.change.DeskChange.{DeskChange}
use Rattle.vet_register.specs.declared.command.Action.{Action}
use Rattle.vet_register.specs.declared.command.Action.TheVariants.{Desk}
use Rattle.vet_register.specs.declared.command.Command.{Command}
use Rattle.vet_register.specs.declared.edits.Asked.{Asked}
use Rattle.vet_register.specs.declared.edits.Asked.TheVariants as asked
use Rattle.vet_register.specs.declared.edits.Effect.{Effect}
use Rattle.vet_register.specs.declared.touching.Touching.{Touching}
use Rattle.vet_register.specs.declared.verdict.Answer.{Answer}
use Rattle.vet_register.specs.declared.verdict.Answer.TheVariants.{Already, Accepted}
use Rattle.vet_register.specs.declared.held.Held.{Held}
use Rattle.vet_register.specs.AtDesk.{entry_number, number_told}
use Rattle.vet_register.specs.Changes.{FitsMoves, changed, demand_by, desk_edited}
use Rattle.vet_register.specs.Held.{Fits, HeldRoom, HeldValue, HoldsRoomOf, demand_in, edited, held_with, standing_in}
use Rattle.vet_register.specs.Machine.{desk_by, held_after, next, number_after, number_given, outcome_of, touched_by}
use Rattle.vet_register.specs.Sound.{IsSound, IsSoundHeld}
use Rattle.vet_register.specs.State.{State, demanded}
use Rattle.vet_register.specs.Touches.{touched_with}
use Rattle.vet_register.specs.Verdict.{verdict, wants_memory}

-- the room for more of what is held, for more at the desk, and for more recorded moves
pub record Rooms : Type 0 where
  pub held : HeldRoom
  pub desk : DeskRoom
  pub moves : ℕ

-- a register: its state, the keeper of the classes, and its rooms
pub record RegisterView (K : Type 0) : Type 0 where
  pub state : State
  pub keeper : K
  pub room : Rooms

-- everything that it holds, with its room
abbrev pub held_room : {K : Type 0} → RegisterView K → Held
held_room r = held_with r.state.held r.room.held

-- its desk, with its room
abbrev pub desk_room : {K : Type 0} → RegisterView K → DeskView
desk_room r = record { content = r.state.desk; room = r.room.desk }

-- no room is lost, so that what was prepared before can still be installed
abbrev pub KeepsRoom : {K : Type 0} → RegisterView K → RegisterView K → Type 0
KeepsRoom old new =
    HoldsRoomOf old.room.held new.room.held
    × ((old.room.moves ≤ new.room.moves) × KeepsDeskChanges (desk_room old) (desk_room new))

-- the desk prepared this edit, and still has the room for it; the edit has a number exactly if its change has an entry
pub record IsDeskEdit (d : DeskView) (e : DeskEdit) : Type 0 where
  pub day : DayValue
  pub command : DeskCommand
  pub prepared : IsDeskChange d day command e.change
  pub numbered : is_some e.entry ≡ is_some (entry_in e.change)

-- the same of an edit, if there is one
abbrev pub HoldsDesk : Option DeskEdit → DeskView → Type 0
HoldsDesk None d = Unit {0}
HoldsDesk (Some e) d = IsDeskEdit d e

-- a keeper has kept what is held and demanded, its standing is that of these, and this is the demand
abbrev pub HasKept : {K U : Type 0} → Keeping K U → K → List Pair → HeldValue → Type 0
HasKept keeping keeper demand held =
    keeping.keeps keeper held.facts (demand_in held)
    × ((keeping.standing keeper ≡ standing_in held) × (demand ≡ demand_in held))

-- each update that was planned for some facts and a demand still is
abbrev pub KeepsReady : {K U : Type 0} → Keeping K U → RegisterView K → RegisterView K → Type 0
KeepsReady {K} {U} keeping old new =
    (u : U) (facts : Facts) (demand : List Pair) → keeping.plans old.keeper u facts demand
    → keeping.plans new.keeper u facts demand

-- a change is that of a command in a state, which accepts it: it leads to the next state, which is sound, with the
-- demand there
pub record IsStep {K U : Type 0} (keeping : Keeping K U) (s : State) (c : Command) (change : Change K U) : Type 0 where
  pub accepts : verdict s c ≡ Ok Accepted
  pub becomes : changed change s ≡ next s c
  pub sound : IsSound (next s c)
  pub demand : demand_by change.demand (demanded s) ≡ demanded (next s c)
  pub touches : keeping.touched_of change.update ≡ touched_by s c.day c.action
  pub outcome : change.outcome ≡ outcome_of s c

-- this register prepared the change for the command on this state, and its keeper planned the update for the next
-- one; both still have the room for it
pub record IsPrepared {K U : Type 0} (keeping : Keeping K U) (r : RegisterView K) (c : Command) (change : Change K U)
    : Type 0 where
  pub step : IsStep keeping r.state c change
  pub fits : Fits change.edit (held_room r)
  pub desk : HoldsDesk change.desk (desk_room r)
  pub move_room : FitsMoves change.recording r.room.moves
  pub plans : keeping.plans r.keeper change.update (next r.state c).held.facts (demanded (next r.state c))

-- everything that was prepared on the old register is prepared on the new one
abbrev pub KeepsPrepared : {K U : Type 0} → Keeping K U → RegisterView K → RegisterView K → Type 0
KeepsPrepared {K} {U} keeping old new =
    (c : Command) (change : Change K U) → IsPrepared keeping old c change → IsPrepared keeping new c change

-- the verdict in an answer
abbrev pub answer_of : {K U : Type 0} → Prepared K U → Answer
answer_of (prepared.Already number) = Already number
answer_of (prepared.Change change) = Accepted

-- a change that is answered was prepared for the command on this state
abbrev pub IsAnswer : {K U : Type 0} → Keeping K U → RegisterView K → Command → Prepared K U → Type 0
IsAnswer keeping r c (prepared.Already number) = Unit {0}
IsAnswer keeping r c (prepared.Change change) = IsPrepared keeping r c change

-- before moves are known, the answer is the verdict, and takes memory only for the name in a refusal
abbrev pub IsExactly : {K U : Type 0} → Told Answer → Result (Prepared K U) Refusal → Type 0
IsExactly (Err e) answer = Refuses e answer
IsExactly (Ok (Already number)) answer = answer ≡ Ok (prepared.Already number)
IsExactly (Ok Accepted) answer = Unit {0}

-- the same; or memory ran out, if a comparison takes memory
abbrev pub IsExact : {K U : Type 0} → Bool → Told Answer → Result (Prepared K U) Refusal → Type 0
IsExact false told answer = IsExactly told answer
IsExact true told answer = (answer ≡ Err NoMemory) ⊎ IsExactly told answer

-- the packages that a command touches, as known before its edit, are those that it touches, once the demand after it is
-- known
abbrev pub SaysTouched : State → DayValue → Action → Touching → Type 0
SaysTouched s day action t =
    touched_with t (demanded s) (demand_in (held_after s day action)) ≡ touched_by s day action

-- an effect is that of a command which was checked, on its day: it says what is touched, its edits fit, and what is
-- held after it is sound
pub record IsEffect {K : Type 0} (r : RegisterView K) (day : DayValue) (action : Action) (e : Effect) : Type 0 where
  pub held : edited e.edit r.state.held ≡ held_after r.state day action
  pub touches : SaysTouched r.state day action e.touching
  pub desk : desk_edited e.desk r.state.desk ≡ desk_by r.state day action
  pub number : e.number ≡ number_given r.state action
  pub next_entry : e.next_entry ≡ number_after r.state action
  pub sound : IsSoundHeld (held_after r.state day action) (number_after r.state action)
  pub fits : Fits e.edit (held_room r)
  pub holds : HoldsDesk e.desk (desk_room r)

-- an effect is that of a command to the desk, on its day, which changes this there
pub record IsDeskEffect {K : Type 0} (r : RegisterView K) (day : DayValue) (command : DeskCommand) (change : DeskChange)
    (e : Effect) : Type 0 where
  pub held : edited e.edit r.state.held ≡ held_after r.state day (Desk command)
  pub touches : SaysTouched r.state day (Desk command) e.touching
  pub desk : e.desk ≡ Some (record { change = change; entry = entry_number r.state command })
  pub number : e.number ≡ number_told r.state command
  pub next_entry : e.next_entry ≡ number_after r.state (Desk command)
  pub fits : Fits e.edit (held_room r)

-- the answer to an action that is accepted is its effect
abbrev pub IsEffectOf : {K : Type 0} → RegisterView K → DayValue → Action → Asked → Type 0
IsEffectOf r day action (asked.Already number) = ⊥
IsEffectOf r day action (asked.Effect e) = IsEffect r day action e

-- the answer to an action on a day: the verdict on it and, if that accepts it, its effect
abbrev pub AsksExactly : {K : Type 0} → RegisterView K → DayValue → Action → Told Answer → Result Asked Refusal → Type 0
AsksExactly r day action (Err e) answer = Refuses e answer
AsksExactly r day action (Ok (Already number)) answer = answer ≡ Ok (asked.Already number)
AsksExactly r day action (Ok Accepted) answer = MatchResult answer (IsEffectOf r day action) (λ e. e ≡ NoMemory)

-- the same; or memory ran out, if a comparison takes memory
abbrev pub AsksBy : {K : Type 0} → Bool → RegisterView K → DayValue → Action → Told Answer → Result Asked Refusal
    → Type 0
AsksBy false r day action told answer = AsksExactly r day action told answer
AsksBy true r day action told answer = (answer ≡ Err NoMemory) ⊎ AsksExactly r day action told answer

-- the answer to an action in a state, if the register has room for its effect
abbrev pub Asks : {K : Type 0} → State → RegisterView K → DayValue → Action → Told Answer → Result Asked Refusal
    → Type 0
Asks s r day action told answer = AsksBy (wants_memory s action) r day action told answer
