-- Requests to a store that is shut, and those for commands whose commit failed, which shuts it (ours).
use Rattle.std.specs.Prelude.{◌≡◌, Option, Some, IsErrAnd}
use Rattle.sqlite.specs.State.{HasCleanDisk}
use Rattle.sqlite.specs.State as sqlite
use Rattle.vet_base.specs.Gives.{Told}
use Rattle.vet_http.specs.Answer.{IsUnavailable}
use Rattle.vet_http.specs.declared.answer.Answered.{Answered}
use Rattle.vet_requests.specs.declared.reply.Reply.{Reply}
use Rattle.vet_register.specs.declared.command.Command.{Command}
use Rattle.vet_register.specs.State.{State}
use Rattle.vet_store.specs.Crash.{LeavesEither}
use Rattle.vet_store.specs.Runs.{IsOfStore}

-- a command that is asked for is refused: memory ran out, or the store refused
unfoldable pub IsRefused : Option Command → Told Answered → Type 0
IsRefused asked answered = (c : Command) → asked ≡ Some c → IsErrAnd answered IsOfStore

-- and the reply says that the register is unavailable
unfoldable pub IsToldRefused : Option Command → Reply → Type 0
IsToldRefused asked reply = (c : Command) → asked ≡ Some c → IsUnavailable reply

-- a crash leaves the rows of the state, or those of the state after the command that is asked for
unfoldable pub LeavesAsked : Option Command → State → sqlite.State → Type 0
LeavesAsked asked s c = (command : Command) × ((asked ≡ Some command) × LeavesEither c s command)

-- the commit of the command that is asked for failed: memory ran out or the store refused; the disk may have it
pub record IsCutOff (asked : Option Command) (s : State) (c : sqlite.State) (answered : Told Answered) : Type 0 where
  pub refused : IsErrAnd answered IsOfStore
  pub leaves : HasCleanDisk c → LeavesAsked asked s c

-- and the reply says that the register is unavailable
pub record IsToldCutOff (asked : Option Command) (s : State) (c : sqlite.State) (reply : Reply) : Type 0 where
  pub unavailable : IsUnavailable reply
  pub leaves : HasCleanDisk c → LeavesAsked asked s c
