-- Commands that are run one after the other.
use Rattle.std.proofs.Common.{◌≡◌, ◌⊎◌, ℕ, Option, List, [], ◌∷◌, ◌++◌, Result, Ok, Err, refl, sym, ap, ◌∙◌, inl, inr}
use Rattle.vet_base.specs.Gives.{◌>>=◌}
use Rattle.vet_base.specs.declared.refusal.Refusal.{Refusal}
use Rattle.vet_base.specs.declared.refusal.Refusal.TheVariants.{NoMemory}
use Rattle.vet_register.specs.declared.command.Command.{Command}
use Rattle.vet_register.specs.declared.command.Outcome.{Outcome}
use Rattle.vet_register.specs.declared.command.Outcome.TheVariants as outcome
use Rattle.vet_register.specs.declared.verdict.Answer.TheVariants.{Accepted, Already}
use Rattle.vet_register.specs.Machine.{next, outcome_of}
use Rattle.vet_register.specs.Runs.{AreTurns, IsTurn, left, outcome_by}
use Rattle.vet_register.specs.State.{State}
use Rattle.vet_register.specs.Verdict.{verdict}

-- a refusal changes nothing
pub turn_refused : (s end : State) (c : Command) (e : Refusal) → (e ≡ NoMemory) ⊎ (verdict s c ≡ Err e) → end ≡ s →
    IsTurn s c (Err e) end
turn_refused s end c e (inl h) stays = inr (ap Err h, stays)
turn_refused s end c e (inr h) stays =
    inl (sym (ap (λ t. t >>= λ a. Ok (outcome_by s c a)) h), stays ∙ sym (ap (left s c) h))

-- nor does what is held already
pub turn_already : (s end : State) (c : Command) (n : Option ℕ) → verdict s c ≡ Ok (Already n) → end ≡ s → IsTurn s c
    (Ok (outcome.Already n)) end
turn_already s end c n h stays = inl (sym (ap (λ t. t >>= λ a. Ok (outcome_by s c a)) h), stays ∙ sym (ap (left s c) h))

-- what is accepted leads to the next state
pub turn_done : (s end : State) (c : Command) (o : Outcome) → verdict s c ≡ Ok Accepted → o ≡ outcome_of s c → end ≡
    next s c → IsTurn s c (Ok o) end
turn_done s end c o h is becomes = inl
    (ap Ok is ∙ sym (ap (λ t. t >>= λ a. Ok (outcome_by s c a)) h), becomes ∙ sym (ap (left s c) h))

-- one command more
pub turns_more : (s mid end : State) (commands : List Command) (answers : List (Result Outcome Refusal)) (c : Command)
    (answer : Result Outcome Refusal)
    → AreTurns s commands answers mid → IsTurn mid c answer end → AreTurns s (commands ++ c ∷ [])
    (answers ++ answer ∷ []) end
turns_more s mid end [] [] c answer turns turn = (end, (rw (sym turns) turn, refl))
turns_more s mid end (b ∷ commands) (first ∷ answers) c answer (next_state, (here, rest)) turn =
    (next_state, (here, turns_more next_state mid end commands answers c answer rest turn))
turns_more s mid end [] (first ∷ answers) c answer turns turn = absurd turns
turns_more s mid end (b ∷ commands) [] c answer turns turn = absurd turns
