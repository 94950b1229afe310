-- The commands that connections ask for, and those that the machine has done (ours).
use Rattle.std.specs.Prelude.{◌≡◌, ◌⊎◌, List, [], ◌∷◌, Option, Some, Ok, IsTrue}
use Rattle.sqlite.specs.State as sqlite
use Rattle.vet_base.specs.Day.{DayValue}
use Rattle.vet_base.specs.Words.{Bytes}
use Rattle.vet_http.specs.AskedFor.{asked_for}
use Rattle.vet_requests.specs.Input.{Hands, Heard, heard}
use Rattle.vet_requests.specs.Request.{RequestValue, Requests}
use Rattle.vet_http.specs.declared.serve.Connection.{Connection}
use Rattle.vet_register.specs.Runs.{after, told}
use Rattle.vet_register.specs.State.{State}
use Rattle.vet_register.specs.declared.command.Command.{Command}
use Rattle.vet_store.specs.Crash.{LeavesEither}
use Rattle.vet_store.specs.Runs.{is_done, machine}

-- the bytes that were read from a connection ask for this command
pub record IsAskedBy (day : DayValue) (seen seen' : Heard) (command : Command) : Type 0 where
  pub bytes : Bytes
  pub hands : Hands seen seen' bytes
  pub request : RequestValue
  pub requests : Requests bytes (Ok request)
  pub asks : asked_for day request ≡ Some command

-- a command was done in a state, and led to another
abbrev pub IsDone : State → Command → State → Type 0
IsDone s command end = IsTrue (is_done (told s command)) × (end ≡ after s command)

module _ {R W : Type 0} (remaining : R → Option Bytes) where
  abbrev pub IsAskedAt : Connection R W → Connection R W → Command → Type 0
  IsAskedAt was left command =
      IsAskedBy was.day (heard remaining was.reader) (heard remaining left.reader) command

  -- connections led from a state to the last by these commands, each asked for and done in its turn
  abbrev pub AreDone : State → List (Connection R W) → List (Connection R W) → List Command → State → Type 0
  AreDone s [] [] [] last = last ≡ s
  AreDone s (was ∷ before) (left ∷ behind) [] last = AreDone s before behind [] last
  AreDone s (was ∷ before) (left ∷ behind) (command ∷ commands) last =
      AreDone s before behind (command ∷ commands) last
      ⊎ (IsAskedAt was left command
      × ((mid : State) × (IsDone s command mid × AreDone mid before behind commands last)))
  AreDone s _ _ _ last = ⊥

  -- the last state is the machine's after only the commands that were done
  abbrev pub IsOfDone : State → List (Connection R W) → List (Connection R W) → State → Type 0
  IsOfDone s before behind last =
      (done : List Command) × (AreDone s before behind done last × (last ≡ machine s done))

  -- some connection asked for this command
  abbrev pub IsAskedAmong : List (Connection R W) → List (Connection R W) → Command → Type 0
  IsAskedAmong (was ∷ before) (left ∷ behind) command =
      IsAskedAt was left command ⊎ IsAskedAmong before behind command
  IsAskedAmong _ _ command = ⊥

  -- a crash leaves the rows of the state, or those of the state after a command that some connection asked for
  unfoldable pub LeavesAmong : List (Connection R W) → List (Connection R W) → State → sqlite.State → Type 0
  LeavesAmong before behind s c = (command : Command) × (IsAskedAmong before behind command × LeavesEither c s command)
