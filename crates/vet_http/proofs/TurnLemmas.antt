-- One connection more.
use Rattle.std.proofs.Common.{◌≡◌, ℕ, ◌+◌, ◌<◌, Bool, true, false, IsTrue, List, [], ◌∷◌, ◌++◌, length, take, drop}
use Rattle.std.proofs.Common.{Option, Result, ap, arith, get_or, inl, inr, length-drop, refl, slice_set, subst, sym}
use Rattle.std.proofs.Common.{◌∙◌}
use Rattle.std.proofs.lemmas.List.{take_more, take_more_set, get_or-drop, drop-set-lt, drop-drop}
use Rattle.sqlite.specs.State.{HasCleanDisk}
use Rattle.sqlite.specs.State as sqlite
use Rattle.vet_base.specs.Words.{Bytes}
use Rattle.vet_http.specs.DoneRequests.{IsAskedAmong, IsAskedAt, LeavesAmong}
use Rattle.vet_http.specs.Serve.{Each}
use Rattle.vet_http.specs.declared.serve.Connection.{Connection}
use Rattle.vet_http.specs.declared.serve.Served.{Served}
use Rattle.vet_register.specs.State.{State}
use Rattle.vet_register.specs.declared.command.Command.{Command}
use Rattle.vet_requests.specs.declared.io_fault.IoFault.{IoFault}
use Rattle.vet_store.specs.Crash.{LeavesEither}

-- ---- what holds of each

module _ {C : Type 0} (Holds Follows : State → C → C → Result Served IoFault → State → Type 0) where
  pub each_follows : ((s : State) (was left : C) (answer : Result Served IoFault) (end : State)
      → Holds s was left answer end → Follows s was left answer end) → (s last : State) (before behind : List C)
      (answers : List (Result Served IoFault)) → Each Holds s before behind answers last
      → Each Follows s before behind answers last
  each_follows follows s last [] [] [] turns = turns
  each_follows follows s last [] [] (a ∷ answers) turns = absurd turns
  each_follows follows s last [] (d ∷ behind) answers turns = absurd turns
  each_follows follows s last (c ∷ before) [] answers turns = absurd turns
  each_follows follows s last (c ∷ before) (d ∷ behind) [] turns = absurd turns
  each_follows follows s last (c ∷ before) (d ∷ behind) (a ∷ answers) (mid, (turn, turns)) =
      (mid, (follows s c d a mid turn, each_follows follows mid last before behind answers turns))

module _ {C : Type 0} (Holds : State → C → C → Result Served IoFault → State → Type 0) where
  pub turn_more : (before behind : List C) (answers : List (Result Served IoFault)) (was left : C)
      (answer : Result Served IoFault) (s t end : State) → Each Holds s before behind answers t
      → Holds t was left answer end
      → Each Holds s (before ++ was ∷ []) (behind ++ left ∷ []) (answers ++ answer ∷ []) end
  turn_more [] [] [] was left answer s t end turns turn =
      (end, (subst (λ (u : State). Holds u was left answer end) turns turn, refl))
  turn_more [] (d ∷ behind) answers was left answer s t end turns turn = absurd turns
  turn_more [] [] (a ∷ answers) was left answer s t end turns turn = absurd turns
  turn_more (c ∷ before) [] answers was left answer s t end turns turn = absurd turns
  turn_more (c ∷ before) (d ∷ behind) [] was left answer s t end turns turn = absurd turns
  turn_more (c ∷ before) (d ∷ behind) (a ∷ answers) was left answer s t end (mid, (first, turns)) turn =
      (mid, (first, turn_more before behind answers was left answer mid t end turns turn))

-- ---- what a crash leaves

module _ {R W : Type 0} (remaining : R → Option Bytes) where
  among_more : (before behind : List (Connection R W)) (was left : Connection R W) (command : Command)
      → IsAskedAmong remaining before behind command
      → IsAskedAmong remaining (before ++ was ∷ []) (behind ++ left ∷ []) command
  among_more [] behind was left command asked = absurd asked
  among_more (c ∷ before) [] was left command asked = absurd asked
  among_more (c ∷ before) (d ∷ behind) was left command (inl here) = inl here
  among_more (c ∷ before) (d ∷ behind) was left command (inr later) =
      inr (among_more before behind was left command later)

  module _ (Holds : State → Connection R W → Connection R W → Result Served IoFault → State → Type 0) where
    among_last : (before behind : List (Connection R W)) (answers : List (Result Served IoFault))
        (was left : Connection R W) (command : Command) (s t : State) → Each Holds s before behind answers t
        → IsAskedAt remaining was left command
        → IsAskedAmong remaining (before ++ was ∷ []) (behind ++ left ∷ []) command
    among_last [] [] [] was left command s t turns asked = inl asked
    among_last [] [] (a ∷ answers) was left command s t turns asked = absurd turns
    among_last [] (d ∷ behind) answers was left command s t turns asked = absurd turns
    among_last (c ∷ before) [] answers was left command s t turns asked = absurd turns
    among_last (c ∷ before) (d ∷ behind) [] was left command s t turns asked = absurd turns
    among_last (c ∷ before) (d ∷ behind) (a ∷ answers) was left command s t (mid, (first, turns)) asked =
        inr (among_last before behind answers was left command mid t turns asked)

    -- a store that was shut stays as it is; one that is shut in this turn is so by this connection's command
    pub leaves_more : (before behind : List (Connection R W)) (answers : List (Result Served IoFault))
        (was left : Connection R W) (s t end : State) (conn conn' : sqlite.State) (shut shut' : Bool)
        → Each Holds s before behind answers t
        → (IsTrue shut → HasCleanDisk conn → LeavesAmong remaining before behind t conn)
        → (IsTrue shut → (end ≡ t) × (conn' ≡ conn))
        → (shut ≡ false → IsTrue shut' → HasCleanDisk conn'
        → (command : Command) × (IsAskedAt remaining was left command × LeavesEither conn' end command))
        → IsTrue shut' → HasCleanDisk conn'
        → LeavesAmong remaining (before ++ was ∷ []) (behind ++ left ∷ []) end conn'
    unfolding LeavesAmong
    leaves_more before behind answers was left s t end conn conn' true shut' turns earlier closed cut is clean =
        let (same, same_conn) = closed refl in
        let (command, (asked, leaves)) = earlier refl (subst HasCleanDisk same_conn clean) in (
          command,
          (
            among_more before behind was left command asked,
            subst (λ (u : State). LeavesEither conn' u command) (sym same)
                (subst (λ (x : sqlite.State). LeavesEither x t command) (sym same_conn) leaves),
          ),
        )
    leaves_more before behind answers was left s t end conn conn' false shut' turns earlier closed cut is clean =
        let (command, (asked, leaves)) = cut refl is clean in
        (command, (among_last before behind answers was left command s t turns asked, leaves))

-- ---- the connections before this one, and this one

module _ {C : Type 0} (cs ds : List C) (i : ℕ) (was left : C) (within : i < length ds)
    (item : was ≡ get_or ds i was) (same : drop i ds ≡ drop i cs) where
  pub before_more : take (i + 1) cs ≡ take i cs ++ was ∷ []
  before_more =
      let enough : i < length cs = omega (arith, within, ap length same, length-drop i ds, length-drop i cs) in
      let count : i + 0 ≡ i = omega arith in
      let held : get_or cs i was ≡ was =
      ap (λ (j : ℕ). get_or cs j was) (sym count) ∙ sym (get_or-drop i cs 0 was)
      ∙ ap (λ (l : List C). get_or l 0 was) (sym same) ∙ get_or-drop i ds 0 was
      ∙ ap (λ (j : ℕ). get_or ds j was) count ∙ sym item in
      take_more cs i was enough ∙ ap (λ (c : C). take i cs ++ c ∷ []) held

  pub behind_more : take (i + 1) (slice_set ds i left) ≡ take i ds ++ left ∷ []
  behind_more = take_more_set ds i left within

  -- what holds of these with this one behind them holds of one more
  pub one_more : (Holds : List C → List C → Type 0) → Holds (take i cs ++ was ∷ []) (take i ds ++ left ∷ [])
      → Holds (take (i + 1) cs) (take (i + 1) (slice_set ds i left))
  one_more Holds holds =
      subst (λ (l : List C). Holds l (take (i + 1) (slice_set ds i left))) (sym before_more)
      (subst (λ (l : List C). Holds (take i cs ++ was ∷ []) l) (sym behind_more) holds)

  -- and so does what holds of each
  pub each_more : (Holds : State → C → C → Result Served IoFault → State → Type 0)
      (answers more : List (Result Served IoFault)) (answer : Result Served IoFault) (s t end : State)
      → more ≡ answers ++ answer ∷ [] → Each Holds s (take i cs) (take i ds) answers t → Holds t was left answer end
      → Each Holds s (take (i + 1) cs) (take (i + 1) (slice_set ds i left)) more end
  each_more Holds answers more answer s t end is turns turn =
      subst (λ (l : List (Result Served IoFault)).
      Each Holds s (take (i + 1) cs) (take (i + 1) (slice_set ds i left)) l end) (sym is)
      (one_more (λ (before behind : List C). Each Holds s before behind (answers ++ answer ∷ []) end)
      (turn_more Holds (take i cs) (take i ds) answers was left answer s t end turns turn))

  pub rest_same : drop (i + 1) (slice_set ds i left) ≡ drop (i + 1) cs
  rest_same =
      drop-set-lt (i + 1) ds i left (omega arith) ∙ sym (drop-drop 1 i ds) ∙ ap (drop 1) same ∙ drop-drop 1 i cs
