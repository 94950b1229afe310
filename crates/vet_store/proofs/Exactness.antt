-- What a store answers is what the register does, but for what would be done.
use Rattle.std.proofs.Common.{◌≡◌, ◌⊎◌, ◌∙◌, ℕ, Bool, true, false, Ok, Err, Option, ap, inl, inr, refl, sym}
use Rattle.std.proofs.lemmas.Bool.{true≢false}
use Rattle.vet_base.proofs.Telling.{never_refuses, refuses_too}
use Rattle.vet_base.specs.Day.{DayValue}
use Rattle.vet_base.specs.Gives.{Told, ◌>>=◌}
use Rattle.vet_base.specs.declared.refusal.Refusal.{Refusal}
use Rattle.vet_base.specs.declared.refusal.Refusal.TheVariants.{NoMemory}
use Rattle.vet_register.specs.RegisterView as register
use Rattle.vet_register.specs.declared.change.Prepared.{Prepared}
use Rattle.vet_register.specs.declared.change.Prepared.TheVariants as prepared
use Rattle.vet_register.specs.declared.command.Action.{Action}
use Rattle.vet_register.specs.declared.command.Command.{Command}
use Rattle.vet_register.specs.declared.command.Outcome.{Outcome}
use Rattle.vet_register.specs.declared.command.Outcome.TheVariants as outcome
use Rattle.vet_register.specs.declared.verdict.Answer.{Answer}
use Rattle.vet_register.specs.declared.verdict.Answer.TheVariants.{Already, Accepted}
use Rattle.vet_register.specs.Runs.{outcome_by, told}
use Rattle.vet_register.specs.State.{State}
use Rattle.vet_register.specs.Verdict.{fitting, judged, verdict, wants_memory}
use Rattle.vet_store.specs.Exact.{AnswersBy, AnswersJudged, IsExact, WouldBeDone}
use Rattle.vet_store.specs.Runs.{is_done}

-- what is told by the verdict
told_by : (s : State) (c : Command) (v : Told Answer) → verdict s c ≡ v
    → told s c ≡ (v >>= λ answer. Ok (outcome_by s c answer))
told_by s c v h = ap (λ t. t >>= λ answer. Ok (outcome_by s c answer)) h

-- what is accepted would be done
pub would_be_done : (s : State) (c : Command) → verdict s c ≡ Ok Accepted → WouldBeDone s c
would_be_done s c accepts = let is : is_done (told s c) ≡ true = ap is_done (told_by s c (Ok Accepted) accepts) in rw is

-- and was accepted before its moves were known
judged_accepted : (s : State) (day : DayValue) (action : Action) (judgement : Told Answer)
    → (judgement >>= fitting s day action) ≡ Ok Accepted → judgement ≡ Ok Accepted
judged_accepted s day action (Err e) h = cc h
judged_accepted s day action (Ok (Already number)) h = cc h
judged_accepted s day action (Ok Accepted) h = refl

by_acceptance : (wants : Bool) (judgement : Told Answer) (answer : Told Outcome) → judgement ≡ Ok Accepted
    → AnswersBy wants judgement answer
by_acceptance true judgement answer is = inr (rw is tt)
by_acceptance false judgement answer is = rw is tt

-- in place of what is accepted anything may come
pub exact_accepted : (s : State) (c : Command) (answer : Told Outcome) → verdict s c ≡ Ok Accepted → IsExact s c answer
exact_accepted s c answer accepts = record {
  judgement = by_acceptance (wants_memory s c.action) (judged s c.day c.action) answer
      (judged_accepted s c.day c.action (judged s c.day c.action) accepts);
  verdict = λ not. absurd
      (true≢false (sym (ap is_done (told_by s c (Ok Accepted) accepts)) ∙ not));
}

-- what is refused is the verdict, or tells that there was no memory
by_cause : (s : State) (c : Command) (e : Refusal) (answer : Told Outcome) → answer ≡ Err e
    → (e ≡ NoMemory) ⊎ (verdict s c ≡ Err e) → (answer ≡ told s c) ⊎ (answer ≡ Err NoMemory)
by_cause s c e answer is (inl memory) = inr (is ∙ ap Err memory)
by_cause s c e answer is (inr refused) = inl (is ∙ sym (told_by s c (Err e) refused))

module _ (K U : Type 0) where
  judged_refused : (judgement : Told Answer) (e : Refusal)
      → register.IsExactly {K = K} {U = U} judgement (Err e) → AnswersJudged judgement (Err e)
  judged_refused (Err f) e h = refuses_too (Prepared K U) Outcome f e h
  judged_refused (Ok (Already number)) e h = cc h
  judged_refused (Ok Accepted) e h = tt

  by_refusal : (wants : Bool) (judgement : Told Answer) (e : Refusal)
      → register.IsExact {K = K} {U = U} wants judgement (Err e) → AnswersBy wants judgement (Err e)
  by_refusal true judgement e (inl h) = inl (ap Err (cc h))
  by_refusal true judgement e (inr h) = inr (judged_refused judgement e h)
  by_refusal false judgement e h = judged_refused judgement e h

  -- what the register refuses
  pub exact_refused : (s : State) (c : Command) (e : Refusal)
      → register.IsExact {K = K} {U = U} (wants_memory s c.action) (judged s c.day c.action) (Err e)
      → (e ≡ NoMemory) ⊎ (verdict s c ≡ Err e) → IsExact s c (Err e)
  exact_refused s c e exact why = record {
    judgement = by_refusal (wants_memory s c.action) (judged s c.day c.action) e exact;
    verdict = λ _. by_cause s c e (Err e) refl why;
  }

  judged_held : (judgement : Told Answer) (number : Option ℕ)
      → register.IsExactly {K = K} {U = U} judgement (Ok (prepared.Already number))
      → AnswersJudged judgement (Ok (outcome.Already number))
  judged_held (Err f) number h = absurd (never_refuses f (prepared.Already number) h)
  judged_held (Ok (Already n)) number h = ap (λ m. Ok (outcome.Already m)) (cc h)
  judged_held (Ok Accepted) number h = tt

  by_what_is_held : (wants : Bool) (judgement : Told Answer) (number : Option ℕ)
      → register.IsExact {K = K} {U = U} wants judgement (Ok (prepared.Already number))
      → AnswersBy wants judgement (Ok (outcome.Already number))
  by_what_is_held true judgement number (inl h) = cc h
  by_what_is_held true judgement number (inr h) = inr (judged_held judgement number h)
  by_what_is_held false judgement number h = judged_held judgement number h

  -- what the register holds already
  pub exact_already : (s : State) (c : Command) (number : Option ℕ)
      → register.IsExact {K = K} {U = U} (wants_memory s c.action) (judged s c.day c.action)
      (Ok (prepared.Already number))
      → verdict s c ≡ Ok (Already number) → IsExact s c (Ok (outcome.Already number))
  exact_already s c number exact is = record {
    judgement = by_what_is_held (wants_memory s c.action) (judged s c.day c.action) number exact;
    verdict = λ _. inl (sym (told_by s c (Ok (Already number)) is));
  }
