-- Commands that are run one after the other over a store.
use Rattle.std.proofs.Common.{◌≡◌, ◌⊎◌, Bool, true, false, List, [], ◌∷◌, ◌++◌, Ok, Err, cond, filter, length, suc}
use Rattle.std.proofs.Common.{refl, sym, ap, ap₂, subst, ◌∙◌, inl, inr}
use Rattle.vet_base.specs.Gives.{Told, ◌>>=◌}
use Rattle.vet_register.specs.declared.command.Command.{Command}
use Rattle.vet_register.specs.declared.command.Outcome.{Outcome}
use Rattle.vet_register.specs.declared.verdict.Answer.{Answer}
use Rattle.vet_register.specs.declared.verdict.Answer.TheVariants.{Accepted, Already}
use Rattle.vet_register.specs.Runs as register
use Rattle.vet_register.specs.Runs.{after, left, outcome_by, told}
use Rattle.vet_register.specs.State.{State}
use Rattle.vet_register.specs.Verdict.{verdict}
use Rattle.vet_store.specs.Runs.{Each, IsOfDone, IsTurn, Ran, done_of, is_done, machine, told_each}

-- a turn of the register is one of the store
pub turn_of : (s end : State) (c : Command) (a : Told Outcome) → register.IsTurn s c a end → IsTurn s c a end
turn_of s end c a (inl h) = inl h
turn_of s end c a (inr (h, stays)) = inr (inl h, stays)

-- one command more
pub each_more : (H : State → Command → Told Outcome → State → Type 0) (s mid end : State) (cs : List Command)
    (rs : List (Told Outcome)) (c : Command) (a : Told Outcome)
    → Each H s cs rs mid → H mid c a end → Each H s (cs ++ c ∷ []) (rs ++ a ∷ []) end
each_more H s mid end [] [] c a turns turn = (end, (rw (sym turns) turn, refl))
each_more H s mid end (b ∷ cs) (first ∷ rs) c a (next_state, (here, rest)) turn =
    (next_state, (here, each_more H next_state mid end cs rs c a rest turn))
each_more H s mid end [] (first ∷ rs) c a turns turn = absurd turns
each_more H s mid end (b ∷ cs) [] c a turns turn = absurd turns

-- what holds of each command, where something else follows of that
pub each_weaker : (H J : State → Command → Told Outcome → State → Type 0)
    → ((s : State) (c : Command) (a : Told Outcome) (end : State) → H s c a end → J s c a end)
    → (s last : State) (cs : List Command) (rs : List (Told Outcome)) → Each H s cs rs last → Each J s cs rs last
each_weaker H J follows s last [] [] h = h
each_weaker H J follows s last (c ∷ cs) (a ∷ rs) (mid, (here, rest)) =
    (mid, (follows s c a mid here, each_weaker H J follows mid last cs rs rest))
each_weaker H J follows s last [] (a ∷ rs) h = absurd h
each_weaker H J follows s last (c ∷ cs) [] h = absurd h

-- two runs are one
pub each_then : (H : State → Command → Told Outcome → State → Type 0) (s mid last : State) (xs ys : List Command)
    (rs qs : List (Told Outcome))
    → Each H s xs rs mid → Each H mid ys qs last → Each H s (xs ++ ys) (rs ++ qs) last
each_then H s mid last [] ys [] qs first second = subst (λ t. Each H t ys qs last) first second
each_then H s mid last (x ∷ xs) ys (a ∷ rs) qs (t, (here, rest)) second =
    (t, (here, each_then H t mid last xs ys rs qs rest second))
each_then H s mid last [] ys (a ∷ rs) qs first second = absurd first
each_then H s mid last (x ∷ xs) ys [] qs first second = absurd first

pub ran_then : (s mid last : State) (xs ys : List Command) (rs qs : List (Told Outcome))
    → Ran s xs rs mid → Ran mid ys qs last → Ran s (xs ++ ys) (rs ++ qs) last
ran_then s mid last [] ys [] qs first second = subst (λ t. Ran t ys qs last) first second
ran_then s mid last (x ∷ xs) ys (a ∷ rs) qs (inl (is, rest)) second =
    inl (is, ran_then (after s x) mid last xs ys rs qs rest second)
ran_then s mid last (x ∷ xs) ys (a ∷ rs) qs (inr (fails, rest)) second =
    inr (fails, ran_then s mid last xs ys rs qs rest second)
ran_then s mid last [] ys (a ∷ rs) qs first second = absurd first
ran_then s mid last (x ∷ xs) ys [] qs first second = absurd first

-- commands that had their turns ran
pub ran_of : (s last : State) (cs : List Command) (rs : List (Told Outcome)) → Each IsTurn s cs rs last
    → Ran s cs rs last
ran_of s last [] [] h = h
ran_of s last (c ∷ cs) (a ∷ rs) (mid, (inl (is, to), rest)) =
    inl (is, subst (λ t. Ran t cs rs last) to (ran_of mid last cs rs rest))
ran_of s last (c ∷ cs) (a ∷ rs) (mid, (inr (fails, to), rest)) =
    inr (fails, subst (λ t. Ran t cs rs last) to (ran_of mid last cs rs rest))
ran_of s last [] (a ∷ rs) h = absurd h
ran_of s last (c ∷ cs) [] h = absurd h

-- each had an answer
pub each_answered : (H : State → Command → Told Outcome → State → Type 0) (s last : State) (cs : List Command)
    (rs : List (Told Outcome)) → Each H s cs rs last → length rs ≡ length cs
each_answered H s last [] [] h = refl
each_answered H s last (c ∷ cs) (a ∷ rs) (mid, (here, rest)) = ap suc (each_answered H mid last cs rs rest)
each_answered H s last [] (a ∷ rs) h = absurd h
each_answered H s last (c ∷ cs) [] h = absurd h

-- ---- the commands that were done

-- a command was done and told its verdict, or it was not and the state stayed
pub done_or_stays : (s mid : State) (c : Command) (a : Told Outcome) → IsTurn s c a mid
    → ((is_done a ≡ true) × ((a ≡ told s c) × (mid ≡ after s c))) ⊎ ((is_done a ≡ false) × (mid ≡ s))
done_or_stays s mid c a (inr (inl e, stays)) = inr (ap is_done e, stays)
done_or_stays s mid c a (inr (inr e, stays)) = inr (ap is_done e, stays)
done_or_stays s mid c a (inl (is, to)) = by (verdict s c) refl
  where
    by : (v : Told Answer) → verdict s c ≡ v
        → ((is_done a ≡ true) × ((a ≡ told s c) × (mid ≡ after s c))) ⊎ ((is_done a ≡ false) × (mid ≡ s))
    by (Ok Accepted) h = inl (ap is_done (is ∙ ap (λ t. t >>= λ x. Ok (outcome_by s c x)) h), (is, to))
    by (Ok (Already n)) h = inr (ap is_done (is ∙ ap (λ t. t >>= λ x. Ok (outcome_by s c x)) h), to ∙ ap (left s c) h)
    by (Err e) h = inr (ap is_done (is ∙ ap (λ t. t >>= λ x. Ok (outcome_by s c x)) h), to ∙ ap (left s c) h)

module _ (s mid last : State) (c : Command) (a : Told Outcome) (cs : List Command) (rs : List (Told Outcome)) where
  abbrev rest : List Command
  rest = done_of cs rs

  abbrev done : Bool → List Command
  done b = cond b (c ∷ rest) rest

  abbrev shown : Bool → List (Told Outcome)
  shown b = cond b (a ∷ filter is_done rs) (filter is_done rs)

  done_more : ((is_done a ≡ true) × ((a ≡ told s c) × (mid ≡ after s c))) ⊎ ((is_done a ≡ false) × (mid ≡ s))
      → IsOfDone mid cs rs last → IsOfDone s (c ∷ cs) (a ∷ rs) last
  done_more (inl (is, (tells, to))) o = record {
    state = o.state ∙ ap (λ t. machine t rest) to ∙ ap (λ b. machine s (done b)) (sym is);
    outcomes = ap shown is ∙ ap₂ (λ x xs. x ∷ xs) tells (o.outcomes ∙ ap (λ t. told_each t rest) to)
        ∙ ap (λ b. told_each s (done b)) (sym is);
  }
  done_more (inr (is, stays)) o = record {
    state = o.state ∙ ap (λ t. machine t rest) stays ∙ ap (λ b. machine s (done b)) (sym is);
    outcomes = ap shown is ∙ o.outcomes ∙ ap (λ t. told_each t rest) stays ∙ ap (λ b. told_each s (done b)) (sym is);
  }

pub is_of_done : (s last : State) (cs : List Command) (rs : List (Told Outcome)) → Each IsTurn s cs rs last
    → IsOfDone s cs rs last
is_of_done s last [] [] h = record { state = h; outcomes = refl }
is_of_done s last (c ∷ cs) (a ∷ rs) (mid, (turn, more)) =
    done_more s mid last c a cs rs (done_or_stays s mid c a turn) (is_of_done mid last cs rs more)
is_of_done s last [] (a ∷ rs) h = absurd h
is_of_done s last (c ∷ cs) [] h = absurd h

-- commands that ran had their turns
pub turns_of : (s last : State) (cs : List Command) (rs : List (Told Outcome)) → Ran s cs rs last
    → Each IsTurn s cs rs last
turns_of s last [] [] h = h
turns_of s last (c ∷ cs) (a ∷ rs) (inl (is, rest)) =
    (after s c, (inl (is, refl), turns_of (after s c) last cs rs rest))
turns_of s last (c ∷ cs) (a ∷ rs) (inr (fails, rest)) = (s, (inr (fails, refl), turns_of s last cs rs rest))
turns_of s last [] (a ∷ rs) h = absurd h
turns_of s last (c ∷ cs) [] h = absurd h

pub runs_keep_done : (s last : State) (cs : List Command) (rs : List (Told Outcome)) → Ran s cs rs last
    → IsOfDone s cs rs last
runs_keep_done s last cs rs ran = is_of_done s last cs rs (turns_of s last cs rs ran)
