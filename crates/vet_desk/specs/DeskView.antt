-- The view of a desk, with its room (ours), and the changes prepared for it. Only this module of the desk has room.
use Rattle.std.specs.Prelude.{◌≡◌, ℕ, ◌+◌, ◌++◌, ◌<◌, ◌≤◌, List, [], ◌∷◌, Option, Some, None, true, is_some, length}
use Rattle.std.specs.Prelude.{slice_get, slice_set, Result, Ok, Err, MatchResult}
use Rattle.std.specs.Coded.{coded×}
use Rattle.std.specs.Ordering.{nat_cmp}
use Rattle.std.specs.Cmp.Lexicographic.{slice_cmp}
use Rattle.vet_base.specs.Words.{Name}
use Rattle.vet_base.specs.declared.limits.TheConstants.{LAST_NUMBER, MOST_MEMBERS, MOST_REVIEWS}
use Rattle.vet_base.specs.declared.refusal.Refusal.{Refusal}
use Rattle.vet_base.specs.declared.refusal.Refusal.TheVariants.{NoMemory}
use Rattle.vet_base.specs.Day.{DayValue}
use Rattle.vet_base.specs.Gives.{Refuses, Told}
use Rattle.vet_base.specs.Keyed as keyed
use Rattle.vet_base.specs.Keyed.{KeyedRoom}
use Rattle.vet_entries.specs.declared.entry.Entry.{Entry}
use Rattle.vet_desk.specs.declared.change.DeskChange.{DeskChange}
use Rattle.vet_desk.specs.declared.change.DeskChange.TheVariants.{Join, Open, Turn, Finish}
use Rattle.vet_desk.specs.declared.change.DeskStep.{DeskStep}
use Rattle.vet_desk.specs.declared.change.DeskStep.TheVariants as step
use Rattle.vet_desk.specs.declared.command.DeskCommand.{DeskCommand}
use Rattle.vet_desk.specs.declared.command.DeskCommand.TheVariants.{AddMember, OpenReview, AssignReview, FinishReview}
use Rattle.vet_desk.specs.declared.command.DeskCommand.TheVariants.{WithdrawReview}
use Rattle.vet_desk.specs.declared.review.Review.{Review}
use Rattle.vet_desk.specs.declared.review.ReviewState.{ReviewState}
use Rattle.vet_desk.specs.declared.review.ReviewState.TheVariants.{Finished}
use Rattle.vet_desk.specs.declared.verdict.DeskAnswer.{DeskAnswer}
use Rattle.vet_desk.specs.declared.verdict.DeskAnswer.TheVariants.{Already, Accepted}
use Rattle.vet_desk.specs.Desk.{DeskState, desk_after, entry_of, is_member, own_name}
use Rattle.vet_desk.specs.Review.{in_state, review_of}
use Rattle.vet_desk.specs.SoundDesk.{IsSoundDesk}

-- the number of further members and reviews for which there is room
pub record DeskRoom : Type 0 where
  pub members : ℕ
  pub reviews : ℕ

-- a desk: its content and its room
pub record DeskView : Type 0 where
  pub content : DeskState
  pub room : DeskRoom

-- the members and their room
abbrev pub members_room : DeskView → KeyedRoom Name
members_room d = record { items = d.content.members; room = d.room.members }

-- ---- changes

-- the reviews, with the one at a place in another state
abbrev pub with_state_there : Option Review → ℕ → ReviewState → List Review → List Review
with_state_there None place state reviews = reviews
with_state_there (Some review) place state reviews = slice_set reviews place (in_state state review)

abbrev pub with_state_at : ℕ → ReviewState → List Review → List Review
with_state_at place state reviews = with_state_there (slice_get reviews place) place state reviews

-- the reviews, with the one at a place finished with the entry of the given number, if there is one
abbrev pub with_entry_at : ℕ → Option ℕ → List Review → List Review
with_entry_at place None reviews = reviews
with_entry_at place (Some entry) reviews = with_state_at place (Finished entry) reviews

-- the desk after a change; a finished review has the entry of this number
abbrev pub desk_changed : DeskChange → Option ℕ → DeskState → DeskState
desk_changed (Join edit) entry d = record d { members = keyed.edited edit d.members }
desk_changed (Open review) entry d = record d { reviews = d.reviews ++ review ∷ []; next_review = d.next_review + 1 }
desk_changed (Turn place state) entry d = record d { reviews = with_state_at place state d.reviews }
desk_changed (Finish place made) entry d = record d { reviews = with_entry_at place entry d.reviews }

-- the own entry of a change
abbrev pub entry_in : DeskChange → Option Entry
entry_in (Finish place made) = Some made
entry_in _ = None

-- a change can be made, and takes no memory
abbrev pub FitsDesk : DeskChange → DeskView → Type 0
FitsDesk (Join edit) d = keyed.Fits (slice_cmp nat_cmp) own_name edit (members_room d)
FitsDesk (Open review) d = 0 < d.room.reviews
FitsDesk (Turn place state) d = place < length d.content.reviews
FitsDesk (Finish place made) d = place < length d.content.reviews

-- ---- prepared changes

-- the change of a command can be prepared: the limits allow it, a number is left, and its references are held
abbrev pub IsAcceptable : DeskState → DeskCommand → Type 0
IsAcceptable d (AddMember name) = length d.members < MOST_MEMBERS
IsAcceptable d (OpenReview name version criteria) = (length d.reviews < MOST_REVIEWS) × (d.next_review ≤ LAST_NUMBER)
IsAcceptable d (AssignReview n member) = (is_member d.members member ≡ true) × (is_some (review_of d.reviews n) ≡ true)
IsAcceptable d (FinishReview n member reviewed) = is_some (review_of d.reviews n) ≡ true
IsAcceptable d (WithdrawReview n member) = is_some (review_of d.reviews n) ≡ true

-- a change is that of a command on a day: it leads to the same desk, which is sound, and has the command's entry
pub record IsDeskStep (d : DeskState) (day : DayValue) (command : DeskCommand) (change : DeskChange) : Type 0 where
  pub becomes : (entry : Option ℕ) → desk_changed change entry d ≡ desk_after day entry command d
  pub sound : (entry : Option ℕ) → IsSoundDesk (desk_after day entry command d)
  pub entry : entry_in change ≡ entry_of d command

-- this desk prepared the change for the command in this state, and still has the room for it
pub record IsDeskChange (d : DeskView) (day : DayValue) (command : DeskCommand) (change : DeskChange) : Type 0 where
  pub step : IsDeskStep d.content day command change
  pub fits : FitsDesk change d

-- a change that is returned is prepared
abbrev pub IsStepOf : DeskView → DayValue → DeskCommand → DeskStep → Type 0
IsStepOf d day command step.Already = Unit {0}
IsStepOf d day command (step.Change change) = IsDeskChange d day command change

-- each change that is prepared for the old desk is prepared for the new one
abbrev pub KeepsDeskChanges : DeskView → DeskView → Type 0
KeepsDeskChanges old new =
    (day : DayValue) (command : DeskCommand) (change : DeskChange) → IsDeskChange old day command change
    → IsDeskChange new day command change

-- no room is lost
abbrev pub HoldsDeskRoom : DeskRoom → DeskRoom → Type 0
HoldsDeskRoom old new = (old.members ≤ new.members) × (old.reviews ≤ new.reviews)

-- the verdict in an answer
abbrev pub desk_answer : DeskStep → DeskAnswer
desk_answer step.Already = Already
desk_answer (step.Change change) = Accepted

-- the answer is the verdict; only copying the name of a refusal and preparing a change may run out of memory
abbrev pub TellsDesk : Told DeskAnswer → Result DeskStep Refusal → Type 0
TellsDesk (Err e) answer = Refuses e answer
TellsDesk (Ok Already) answer = answer ≡ Ok step.Already
TellsDesk (Ok Accepted) answer = MatchResult answer (λ s. desk_answer s ≡ Accepted) (λ e. e ≡ NoMemory)
