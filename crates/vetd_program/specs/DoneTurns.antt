-- The commands that clients ask for, and which of them the machine has done (ours).
use Rattle.std.specs.Prelude.{◌≡◌, ◌⊎◌, Bool, false, IsTrue, List, [], ◌∷◌}
use Rattle.sqlite.specs.State.{HasCleanDisk}
use Rattle.sqlite.specs.State as sqlite
use Rattle.vet_http.specs.DoneRequests.{IsAskedBy, IsDone}
use Rattle.vet_base.specs.Gives.{Told}
use Rattle.vet_register.specs.Runs.{told}
use Rattle.vet_register.specs.State.{State}
use Rattle.vet_register.specs.declared.command.Command.{Command}
use Rattle.vet_register.specs.declared.command.Outcome.{Outcome}
use Rattle.vet_store.specs.Crash.{LeavesEither}
use Rattle.vet_store.specs.Headline.{HasClasses}
use Rattle.vet_store.specs.Runs.{machine, told_each}
use Rattle.vetd_program.specs.Serving.{Turn}

-- the request of a turn asks for this command
abbrev pub IsAskedIn : Turn → Command → Type 0
IsAskedIn t command = IsAskedBy t.day t.seen t.seen' command

-- Turns led from a state to the last by these commands, each asked for and done in its turn, with these outcomes. All
-- other turns left the state as it was.
abbrev pub AreDone : State → List Turn → List Command → List (Told Outcome) → State → Type 0
AreDone s [] [] [] last = last ≡ s
AreDone s [] commands outcomes last = ⊥
AreDone s (t ∷ turns) [] [] last = AreDone s turns [] [] last
AreDone s (t ∷ turns) (command ∷ commands) (outcome ∷ outcomes) last =
    AreDone s turns (command ∷ commands) (outcome ∷ outcomes) last
    ⊎ (IsAskedIn t command × ((outcome ≡ told s command)
    × ((mid : State) × (IsDone s command mid × AreDone mid turns commands outcomes last))))
AreDone s (t ∷ turns) commands outcomes last = ⊥

-- The headline over clients: the last state is that of the machine over only the commands that were done, with the same
-- outcomes, and it has its classes. Each turn already says its reply, and that a request for what is held changes
-- nothing.
pub record HasHeadline (s : State) (turns : List Turn) (last : State) : Type 0 where
  pub done : List Command
  pub outcomes : List (Told Outcome)
  pub are_done : AreDone s turns done outcomes last
  pub machine : last ≡ machine s done
  pub same : outcomes ≡ told_each s done
  pub classes : HasClasses last

-- some client asked for this command
abbrev pub IsAskedAmong : List Turn → Command → Type 0
IsAskedAmong [] command = ⊥
IsAskedAmong (t ∷ turns) command = IsAskedIn t command ⊎ IsAskedAmong turns command

-- a crash leaves the rows of the state, or those of the state after a command that some client asked for
abbrev pub LeavesAmong : List Turn → State → sqlite.State → Type 0
LeavesAmong turns s c = (command : Command) × (IsAskedAmong turns command × LeavesEither c s command)

-- this is so if the store was shut in the meantime
abbrev pub LeavesWhereShut : Bool → Bool → sqlite.State → State → List Turn → Type 0
LeavesWhereShut was shut c s turns = was ≡ false → IsTrue shut → HasCleanDisk c → LeavesAmong turns s c
