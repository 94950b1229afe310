-- Which refusals may replace the verdict of a command (ours).
--
-- This is about a store that is not shut. A verdict that is known before the command's moves is returned: that its
-- content is held, or a refusal. Running out of memory may replace it only while an unknown name is copied, or content
-- is compared with what is held (wants_memory). The store refuses only a command that would be done.
use Rattle.std.specs.Prelude.{◌≡◌, ◌⊎◌, Bool, true, false, IsTrue, Ok, Err, ⊤}
use Rattle.vet_base.specs.Gives.{Refuses, Told}
use Rattle.vet_base.specs.declared.refusal.Refusal.TheVariants.{NoMemory}
use Rattle.vet_register.specs.declared.command.Command.{Command}
use Rattle.vet_register.specs.declared.command.Outcome.{Outcome}
use Rattle.vet_register.specs.declared.command.Outcome.TheVariants as outcome
use Rattle.vet_register.specs.declared.verdict.Answer.{Answer}
use Rattle.vet_register.specs.declared.verdict.Answer.TheVariants.{Already, Accepted}
use Rattle.vet_register.specs.Runs.{told}
use Rattle.vet_register.specs.State.{State}
use Rattle.vet_register.specs.Verdict.{judged, wants_memory}
use Rattle.vet_store.specs.Runs.{IsTurn, is_done}

-- the answer is the verdict, if that is not an acceptance
abbrev pub AnswersJudged : Told Answer → Told Outcome → Type 0
AnswersJudged (Err e) answer = Refuses e answer
AnswersJudged (Ok (Already number)) answer = answer ≡ Ok (outcome.Already number)
AnswersJudged (Ok Accepted) answer = ⊤

-- or memory ran out, if a comparison takes it
abbrev pub AnswersBy : Bool → Told Answer → Told Outcome → Type 0
AnswersBy false judgement answer = AnswersJudged judgement answer
AnswersBy true judgement answer = (answer ≡ Err NoMemory) ⊎ AnswersJudged judgement answer

-- the command would be done
abbrev pub WouldBeDone : State → Command → Type 0
WouldBeDone s c = IsTrue (is_done (told s c))

-- the answer is the verdict, or what may replace it
pub record IsExact (s : State) (c : Command) (answer : Told Outcome) : Type 0 where
  pub judgement : AnswersBy (wants_memory s c.action) (judged s c.day c.action) answer
  pub verdict : is_done (told s c) ≡ false → (answer ≡ told s c) ⊎ (answer ≡ Err NoMemory)

-- a turn of which this holds
abbrev pub IsExactTurn : State → Command → Told Outcome → State → Type 0
IsExactTurn s c answer end = IsTurn s c answer end × IsExact s c answer
