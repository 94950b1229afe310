-- Requests that ask, in their turn, for what is held already (ours).
use Rattle.std.specs.Prelude.{◌≡◌, ◌⊎◌, Option, Some, None, Ok, Err}
use Rattle.vet_base.specs.Gives.{Told}
use Rattle.vet_http.specs.Answer.{IsUnavailable}
use Rattle.vet_http.specs.Answered.{reply_of}
use Rattle.vet_http.specs.Told.{outcome_reply}
use Rattle.vet_http.specs.declared.answer.Answered.{Answered}
use Rattle.vet_requests.specs.declared.reply.Reply.{Reply}
use Rattle.vet_register.specs.declared.command.Command.{Command}
use Rattle.vet_register.specs.declared.command.Outcome.TheVariants.{Already}
use Rattle.vet_register.specs.State.{State}
use Rattle.vet_store.specs.Repeats.{Repeats}
use Rattle.vet_store.specs.Runs.{IsOfStore}

-- the answer says that it is held already, unless memory ran out or the store refused
abbrev pub TellsHeld : Told Answered → Type 0
TellsHeld (Ok answered) = reply_of answered ≡ outcome_reply (Already None)
TellsHeld (Err refusal) = IsOfStore refusal

-- the answer to a command for what is held says so, and the state stays
unfoldable pub HeldStays : Option Command → State → Told Answered → State → Type 0
HeldStays asked s answered end =
    (c : Command) → asked ≡ Some c → Repeats s c.action → TellsHeld answered × (end ≡ s)

-- the same for the reply
unfoldable pub RepeatsStay : Option Command → State → Reply → State → Type 0
RepeatsStay asked s reply end =
    (c : Command) → asked ≡ Some c → Repeats s c.action
    → ((reply ≡ outcome_reply (Already None)) ⊎ IsUnavailable reply) × (end ≡ s)
