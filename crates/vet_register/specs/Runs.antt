-- The states after commands that are run one after the other (ours).
--
-- The state after a command is the next one if the command is accepted, otherwise the same. Commands are run in turns
-- (AreTurns), one after the other. Each is answered with the verdict, and with its outcome, in the state that those
-- before it left (IsTurn), and leads to the state after it. Or memory runs out for it, and it changes nothing.
use Rattle.std.specs.Prelude.{◌≡◌, ◌⊎◌, List, [], ◌∷◌, Result, Ok, Err}
use Rattle.vet_base.specs.Gives.{Told, ◌>>=◌}
use Rattle.vet_base.specs.declared.refusal.Refusal.{Refusal}
use Rattle.vet_base.specs.declared.refusal.Refusal.TheVariants.{NoMemory}
use Rattle.vet_register.specs.declared.command.Command.{Command}
use Rattle.vet_register.specs.declared.command.Outcome.{Outcome}
use Rattle.vet_register.specs.declared.command.Outcome.TheVariants as outcome
use Rattle.vet_register.specs.declared.verdict.Answer.{Answer}
use Rattle.vet_register.specs.declared.verdict.Answer.TheVariants.{Already, Accepted}
use Rattle.vet_register.specs.Machine.{next, outcome_of}
use Rattle.vet_register.specs.State.{State}
use Rattle.vet_register.specs.Verdict.{verdict}

-- the outcome of a command by the verdict on it
abbrev pub outcome_by : State → Command → Answer → Outcome
outcome_by s c (Already number) = outcome.Already number
outcome_by s c Accepted = outcome_of s c

-- the verdict on a command, with its outcome
abbrev pub told : State → Command → Told Outcome
told s c = verdict s c >>= λ answer. Ok (outcome_by s c answer)

-- the state that an answer leaves: an accepted command leads to the next one, any other changes nothing
abbrev pub left : State → Command → Told Answer → State
left s c (Ok Accepted) = next s c
left s c (Ok (Already number)) = s
left s c (Err e) = s

-- the state after a command
abbrev pub after : State → Command → State
after s c = left s c (verdict s c)

-- a command was answered in one state, and left the other: it was answered with its verdict, or memory ran out and it
-- changed nothing
abbrev pub IsTurn : State → Command → Result Outcome Refusal → State → Type 0
IsTurn s c answer end = ((answer ≡ told s c) × (end ≡ after s c)) ⊎ ((answer ≡ Err NoMemory) × (end ≡ s))

-- commands were answered in their order, each in the state that those before it left
abbrev pub AreTurns : State → List Command → List (Result Outcome Refusal) → State → Type 0
AreTurns s [] [] end = end ≡ s
AreTurns s (c ∷ commands) (answer ∷ answers) end =
    (mid : State) × (IsTurn s c answer mid × AreTurns mid commands answers end)
AreTurns s _ _ end = ⊥
