-- Commands that are run on a stored register, one after the other (ours).
use Rattle.std.specs.Prelude.{◌≡◌, ◌⊎◌, Bool, true, false, List, [], ◌∷◌, Ok, Err, filter, if◌then◌else◌}
use Rattle.std.specs.List.{AllByRecursion}
use Rattle.vet_base.specs.Gives.{Told}
use Rattle.vet_base.specs.declared.refusal.Refusal.{Refusal}
use Rattle.vet_base.specs.declared.refusal.Refusal.TheVariants.{NoMemory, StoreRefused}
use Rattle.vet_register.specs.declared.command.Command.{Command}
use Rattle.vet_register.specs.declared.command.Outcome.{Outcome}
use Rattle.vet_register.specs.declared.command.Outcome.TheVariants.{Done}
use Rattle.vet_register.specs.Runs.{after, told}
use Rattle.vet_register.specs.State.{State}

-- memory ran out, or the store refused
abbrev pub IsOfStore : Refusal → Type 0
IsOfStore e = (e ≡ NoMemory) ⊎ (e ≡ StoreRefused)

-- a command failed for one of these reasons, which no verdict gives
abbrev pub Fails : Told Outcome → Type 0
Fails answer = (answer ≡ Err NoMemory) ⊎ (answer ≡ Err StoreRefused)

-- a shut store refused each
abbrev pub AreRefused : List (Told Outcome) → Type 0
AreRefused = AllByRecursion (λ answer. answer ≡ Err StoreRefused)

-- commands ran from a state, had these answers and left the last state. No command leaves the state as it is. Otherwise
-- the answer to the first is its verdict in the state, and the rest ran from the state after it; or the first failed,
-- and the rest ran from the same state
abbrev pub Ran : State → List Command → List (Told Outcome) → State → Type 0
Ran s [] [] last = last ≡ s
Ran s (c ∷ commands) (answer ∷ answers) last =
    ((answer ≡ told s c) × Ran (after s c) commands answers last) ⊎ (Fails answer × Ran s commands answers last)
Ran s _ _ last = ⊥

-- a command had this answer in one state and left the other: its verdict there, or it failed and changed nothing
abbrev pub IsTurn : State → Command → Told Outcome → State → Type 0
IsTurn s c answer end = ((answer ≡ told s c) × (end ≡ after s c)) ⊎ (Fails answer × (end ≡ s))

-- this holds of each command, of the state of its turn, its answer and the state that it left
abbrev pub Each : (State → Command → Told Outcome → State → Type 0) → State → List Command → List (Told Outcome) → State
    → Type 0
Each Holds s [] [] last = last ≡ s
Each Holds s (c ∷ commands) (answer ∷ answers) last =
    (mid : State) × (Holds s c answer mid × Each Holds mid commands answers last)
Each Holds s _ _ last = ⊥

-- a command was done
abbrev pub is_done : Told Outcome → Bool
is_done (Ok (Done step number moves)) = true
is_done _ = false

-- the commands that were done, by their answers
abbrev pub done_of : List Command → List (Told Outcome) → List Command
done_of (c ∷ commands) (answer ∷ answers) =
    if is_done answer then c ∷ done_of commands answers else done_of commands answers
done_of _ _ = []

-- the state to which commands lead the machine, and its answer to each in its turn
abbrev pub machine : State → List Command → State
machine s [] = s
machine s (c ∷ commands) = machine (after s c) commands

abbrev pub told_each : State → List Command → List (Told Outcome)
told_each s [] = []
told_each s (c ∷ commands) = told s c ∷ told_each (after s c) commands

-- the last state is that of the machine after only the commands that were done, with the same outcomes
pub record IsOfDone (s : State) (commands : List Command) (answers : List (Told Outcome)) (last : State) : Type 0 where
  pub state : last ≡ machine s (done_of commands answers)
  pub outcomes : filter is_done answers ≡ told_each s (done_of commands answers)
