-- What a crash leaves after commands on a store, one command after the other.
use Rattle.std.proofs.Common.{◌≡◌, ◌⊎◌, Bool, true, false, IsTrue, List, [], ◌∷◌, ◌++◌, Ok, Err, inl, inr}
use Rattle.std.proofs.Common.{refl, sym, ap, subst, ◌∙◌}
use Rattle.std.proofs.lemmas.Bool.{cases_Bool, true≢false}
use Rattle.std.proofs.lemmas.List.{append_assoc}
use Rattle.sqlite.specs.State.{HasCleanDisk, Survives}
use Rattle.sqlite.specs.State as sqlite
use Rattle.vet_base.specs.Gives.{Told}
use Rattle.vet_base.specs.declared.refusal.Refusal.TheVariants.{StoreRefused}
use Rattle.vet_register.specs.declared.command.Command.{Command}
use Rattle.vet_register.specs.declared.command.Outcome.{Outcome}
use Rattle.vet_register.specs.declared.verdict.Answer.TheVariants.{Accepted}
use Rattle.vet_register.specs.Runs.{after, left, told}
use Rattle.vet_register.specs.Machine.{next}
use Rattle.vet_register.specs.State.{State}
use Rattle.vet_register.specs.Verdict.{verdict}
use Rattle.vet_rows.specs.RowsOf.{rows_of}
use Rattle.vet_store.specs.Committed.{AreTreesOf}
use Rattle.vet_store.specs.Crash.{EndsShut, LeavesEither, LeavesRun}
use Rattle.vet_store.specs.Exact.{IsExactTurn, WouldBeDone}
use Rattle.vet_store.specs.Runs.{Each, Fails, IsTurn, Ran, is_done}
use Rattle.vet_store.specs.Tied.{IsTied, IsWritten, Leaves}
use Rattle.vet_tables.proofs.Readings.{all_pushed}
use Rattle.vet_store.proofs.Running.{done_or_stays}
use Rattle.vet_store.proofs.Tying.{leaves_still, still_clean}

-- ---- one command

-- an accepted command leads to the next state
pub after_accepted : (s : State) (c : Command) → verdict s c ≡ Ok Accepted → next s c ≡ after s c
after_accepted s c accepts = sym (ap (left s c) accepts)

-- a crash leaves the rows before a command, where it leaves them now
pub left_before : (c : sqlite.State) (s : State) (command : Command) → Leaves c (rows_of s) → LeavesEither c s command
left_before c s command leaves trees may = inl (leaves trees may)

-- or those after it
pub left_after : (c : sqlite.State) (s end : State) (command : Command) → end ≡ after s command
    → Leaves c (rows_of end) → LeavesEither c s command
left_after c s end command is leaves trees may =
    inr (subst (λ (t : State). AreTreesOf (rows_of t) trees) is (leaves trees may))

-- where a commit failed, it leaves the ones or the others
left_by_commit : (old new : sqlite.State) (was : Bool) (s : State) (command : Command)
    → IsTied old was (rows_of s) → was ≡ false → next s command ≡ after s command
    → (HasCleanDisk new → IsTrue old.is_open)
    → Survives old new (IsWritten old (rows_of s) (rows_of (next s command)))
    → HasCleanDisk new → LeavesEither new s command
left_by_commit old new was s command tied unshut is serves lasts clean trees may = by (lasts.crash clean trees may)
  where
    early : HasCleanDisk old
    early = still_clean old new _ lasts clean

    by : old.may_leave trees ⊎ IsWritten old (rows_of s) (rows_of (next s command)) trees
        → AreTreesOf (rows_of s) trees ⊎ AreTreesOf (rows_of (after s command)) trees
    by (inl before) = inl (tied.leaves early unshut trees before)
    by (inr written) = inr (subst (λ (t : State). AreTreesOf (rows_of t) trees) is
        (written.0, written.1, (written.2 (tied.stands early (serves clean))).0))

-- where changes were refused, it leaves the rows before; or the ones or the others, if the commit refused them
pub left_refused : (old new : sqlite.State) (was shut : Bool) (s : State) (command : Command)
    → IsTied old was (rows_of s) → was ≡ false → next s command ≡ after s command
    → (HasCleanDisk new → IsTrue shut → IsTrue old.is_open)
    → Survives old new (IsWritten old (rows_of s) (rows_of (next s command)))
    → (shut ≡ false → Survives old new (λ _. ⊥))
    → HasCleanDisk new → LeavesEither new s command
left_refused old new was shut s command tied unshut is serves survives before clean = by (cases_Bool shut)
  where
    by : (shut ≡ true) ⊎ (shut ≡ false) → LeavesEither new s command
    by (inl shuts) =
        left_by_commit old new was s command tied unshut is (λ still. serves still (rw shuts)) survives clean
    by (inr still) = left_before new s command (leaves_still old new (rows_of s) (before still) clean
        (tied.leaves (still_clean old new _ survives clean) unshut))

-- a command that failed changed nothing
fails_stays : (s end : State) (c : Command) (a : Told Outcome) → IsTurn s c a end → Fails a → end ≡ s
fails_stays s end c a turn fails = by (done_or_stays s end c a turn) fails
  where
    by : ((is_done a ≡ true) × ((a ≡ told s c) × (end ≡ after s c))) ⊎ ((is_done a ≡ false) × (end ≡ s)) → Fails a
        → end ≡ s
    by (inr (is, stays)) f = stays
    by (inl (is, rest)) (inl e) = absurd (true≢false (sym is ∙ ap is_done e))
    by (inl (is, rest)) (inr e) = absurd (true≢false (sym is ∙ ap is_done e))

-- a store that is not shut was not before
pub was_unshut : (was shut : Bool) → (IsTrue was → shut ≡ was) → shut ≡ false → was ≡ false
was_unshut true shut same still = absurd (true≢false (sym (same refl) ∙ still))
was_unshut false shut same still = refl

-- ---- one command after another

-- the commit of the last command failed
abbrev shut_now : (s t end : State) (cs : List Command) (rs : List (Told Outcome)) (c : Command) (a : Told Outcome)
    → Ran s cs rs t → Each IsExactTurn s cs rs t → WouldBeDone t c → end ≡ t → Fails a
    → EndsShut s (cs ++ c ∷ []) (rs ++ a ∷ []) end
shut_now s t end cs rs c a ran exact done stays fails = record {
  front = cs;
  command = c;
  behind = [];
  earlier = rs;
  answer = a;
  later = [];
  commands_are = refl;
  answers_are = refl;
  ran = subst (Ran s cs rs) (sym stays) ran;
  exact = subst (Each IsExactTurn s cs rs) (sym stays) exact;
  would_be_done = subst (λ (x : State). WouldBeDone x c) (sym stays) done;
  fails = fails;
  refused = tt;
}

-- one command more is refused
abbrev shut_still : (s t end : State) (cs : List Command) (rs : List (Told Outcome)) (c : Command) (a : Told Outcome)
    → EndsShut s cs rs t → end ≡ t → a ≡ Err StoreRefused → EndsShut s (cs ++ c ∷ []) (rs ++ a ∷ []) end
shut_still s t end cs rs c a ends stays refused = record {
  front = ends.front;
  command = ends.command;
  behind = ends.behind ++ c ∷ [];
  earlier = ends.earlier;
  answer = ends.answer;
  later = ends.later ++ a ∷ [];
  commands_are = ap (λ xs. xs ++ c ∷ []) ends.commands_are
      ∙ append_assoc ends.front (ends.command ∷ ends.behind) (c ∷ []);
  answers_are = ap (λ xs. xs ++ a ∷ []) ends.answers_are
      ∙ append_assoc ends.earlier (ends.answer ∷ ends.later) (a ∷ []);
  ran = subst (Ran s ends.front ends.earlier) (sym stays) ends.ran;
  exact = subst (Each IsExactTurn s ends.front ends.earlier) (sym stays) ends.exact;
  would_be_done = subst (λ (x : State). WouldBeDone x ends.command) (sym stays) ends.would_be_done;
  fails = ends.fails;
  refused = all_pushed (λ told. told ≡ Err StoreRefused) ends.later a ends.refused refused;
}

-- what is known of one command more
pub record Step (mid new : sqlite.State) (was shut : Bool) (t end : State) (c : Command) (a : Told Outcome)
    : Type 1 where
  pub turn : IsTurn t c a end
  pub tied : IsTied new shut (rows_of end)
  pub shuts : was ≡ false → IsTrue shut → Fails a
  pub shuts_only : was ≡ false → IsTrue shut → WouldBeDone t c
  pub either : was ≡ false → HasCleanDisk new → LeavesEither new t c
  pub refused : IsTrue was → a ≡ Err StoreRefused
  pub same : IsTrue was → (new ≡ mid) × ((shut ≡ was) × (end ≡ t))

pub leaves_more : (mid new : sqlite.State) (was shut : Bool) (s t end : State) (cs : List Command)
    (rs : List (Told Outcome)) (c : Command) (a : Told Outcome)
    → Ran s cs rs t → (was ≡ false → Each IsExactTurn s cs rs t) → LeavesRun mid was s cs rs t
    → Step mid new was shut t end c a → LeavesRun new shut s (cs ++ c ∷ []) (rs ++ a ∷ []) end
leaves_more mid new was shut s t end cs rs c a ran exact (inl (unshut, leaves)) step = by (cases_Bool shut)
  where
    by : (shut ≡ true) ⊎ (shut ≡ false) → LeavesRun new shut s (cs ++ c ∷ []) (rs ++ a ∷ []) end
    by (inr still) = inl (still, λ clean. step.tied.leaves clean still)
    by (inl is) =
        let fails = step.shuts unshut (rw is) in
        let stays = fails_stays t end c a step.turn fails in
        inr (
          rw is,
          shut_now s t end cs rs c a ran (exact unshut) (step.shuts_only unshut (rw is)) stays fails,
          λ clean. subst (λ (x : State). LeavesEither new x c) (sym stays) (step.either unshut clean),
        )
leaves_more mid new was shut s t end cs rs c a ran exact (inr (is, ends, either)) step =
    let h = step.same is in
    inr (
      rw h.1.0 is,
      shut_still s t end cs rs c a ends h.1.1 (step.refused is),
      λ clean. subst (λ (x : State). LeavesEither new x ends.command) (sym h.1.1)
          (subst (λ (x : sqlite.State). HasCleanDisk x → LeavesEither x t ends.command) (sym h.0) either clean),
    )
