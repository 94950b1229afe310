-- An accepted command leads from a sound state to a sound one.
use Rattle.std.proofs.Common.{◌≡◌, ℕ, ◌+◌, Bool, true, false, cond, List, [], ◌∷◌, ◌++◌, map, length, Ok, refl, sym, ap}
use Rattle.std.proofs.Common.{◌∙◌, arith, inl, inr}
use Rattle.std.specs.List.{All}
use Rattle.std.specs.Prelude.{nat_lt}
use Rattle.std.proofs.lemmas.Bool.{ltb-false}
use Rattle.std.proofs.lemmas.List.{length-append, length-map, map-append}
use Rattle.std.proofs.lemmas.List.Elements.{All-append, All-map, All-nil, All-weaker}
use Rattle.vet_base.specs.declared.refusal.Refusal.TheVariants.{MovesFull}
use Rattle.vet_base.specs.Day.{DayValue}
use Rattle.vet_base.specs.Gives.{refuse_if}
use Rattle.vet_base.proofs.Telling.{not_refused}
use Rattle.vet_entries.specs.Facts.{Facts}
use Rattle.vet_demand.specs.declared.pair.Pair.{Pair}
use Rattle.vet_demand.specs.DemandOf.{DemandIsLeast}
use Rattle.vet_demand.specs.Pair.{IsInOrder}
use Rattle.vet_graph.specs.declared.class.Class.{Class}
use Rattle.vet_graph.specs.declared.class.Class.TheVariants.{Conflicting, Full, Partial, Exempted, Unvetted}
use Rattle.vet_graph.specs.declared.moves.Move.{Move}
use Rattle.vet_graph.specs.declared.standing.Stand.{Stand}
use Rattle.vet_graph.specs.Moves.{ArrivalsAdd, DeparturesAdd, MovesAreDifferences, MovesBalance, arrivals_of}
use Rattle.vet_graph.specs.Moves.{departures_of}
use Rattle.vet_graph.specs.Standing.{IsStanding, count_in, count_of, counts_of, pairs_of}
use Rattle.vet_graph.specs.StandingOf.{standing_of}
use Rattle.vet_register.specs.declared.command.Action.{Action}
use Rattle.vet_register.specs.declared.command.Action.TheVariants.{SetCriterion, RemoveCriterion, AddEntry, DropEntry}
use Rattle.vet_register.specs.declared.command.Action.TheVariants.{SetPeer, DropPeer, ImportPeer, SetPublishers}
use Rattle.vet_register.specs.declared.command.Action.TheVariants.{SetPolicy, DropPolicy, LoadProject, DropProject}
use Rattle.vet_register.specs.declared.command.Action.TheVariants.{ReplaceFiles, Desk, ClosePeriod, SetDay}
use Rattle.vet_register.specs.declared.command.Command.{Command}
use Rattle.vet_register.specs.declared.moves.RecordedMove.{RecordedMove}
use Rattle.vet_register.specs.declared.verdict.Answer.TheVariants.{Accepted}
use Rattle.vet_register.specs.Machine.{ends_period, held_after, moves_after, moves_of, next, number_after, recorded}
use Rattle.vet_register.specs.Machine.{records_of}
use Rattle.vet_register.specs.Sound.{AreInOrder, ComesBefore, IsBalanced, IsBy, IsSound, IsSoundHeld}
use Rattle.vet_register.specs.Held.{HeldValue, demand_in, standing_in}
use Rattle.vet_register.specs.State.{State, changes_of, standing}
use Rattle.vet_register.specs.Verdict.{judged, moves_fit}
use Rattle.vet_register.proofs.DeskEffects.{sound_desk}
use Rattle.vet_register.proofs.Effects.{next_number_follows, passed, step_follows, step_passed}
use Rattle.vet_register.proofs.Lists.{AllPairs-append, AllPairs-map}

-- ---- the moves

same_changes : (step : ℕ) (day : DayValue) (moves : List Move) → changes_of (map (recorded step day) moves) ≡ moves
same_changes step day [] = refl
same_changes step day (m ∷ moves) = ap (λ ms. m ∷ ms) (same_changes step day moves)

pub changes-append : (s : State) (c : Command) → changes_of (s.moves ++ records_of s c) ≡ changes_of s.moves ++
    moves_of s c.day c.action
changes-append s c = map-append (λ m. m.change) s.moves (records_of s c) ∙ ap (λ ms. changes_of s.moves ++ ms)
    (same_changes (s.step + 1) c.day (moves_of s c.day c.action))

pub same_pairs : (facts : Facts) (demand : List Pair) → pairs_of (standing_of facts demand) ≡ demand
same_pairs facts [] = refl
same_pairs facts (p ∷ demand) = ap (λ ps. p ∷ ps) (same_pairs facts demand)

pub standing_in_order : (facts : Facts) (demand : List Pair) → IsInOrder demand → IsStanding (standing_of facts demand)
standing_in_order facts demand h = rw (same_pairs facts demand) h

abbrev IsOf : ℕ → RecordedMove → Type 0
IsOf step m = m.step ≡ step

-- the laws of moves and of the demand on which the balance rests
pub record MoveLaws : Type 0 where
  pub differences : MovesAreDifferences
  pub balance : MovesBalance
  pub arrivals : ArrivalsAdd
  pub departures : DeparturesAdd
  pub least : DemandIsLeast

-- what is held and sound has a standing in order
sound_standing : DemandIsLeast → (held : HeldValue) (next : ℕ) → IsSoundHeld held next → IsStanding (standing_in held)
sound_standing least held next h =
    standing_in_order held.facts (demand_in held)
    (least held.projects held.policies held.facts.criteria h.facts.criteria h.policies.known).in_order

moves_sound : MoveLaws → (s : State) (c : Command) → moves_fit s c.day c.action ≡ Ok tt
    → IsSoundHeld s.held s.next_entry → IsSoundHeld (held_after s c.day c.action) (number_after s c.action)
    → AreInOrder s.moves s.step s.moves_limit
    → AreInOrder (moves_after s c) (s.step + 1) s.moves_limit
moves_sound laws s c fit before after h = by (ends_period c.action) fit
  where
    ended : AreInOrder [] (s.step + 1) s.moves_limit
    ended = record {
      in_order = λ i j d l m. absurd (omega arith);
      steps = All-nil (IsBy (s.step + 1));
      few = omega
          arith;
    }

    recorded_behind : nat_lt s.moves_limit (length s.moves + length (moves_of s c.day c.action)) ≡ false → AreInOrder
        (s.moves ++ records_of s c) (s.step + 1) s.moves_limit
    recorded_behind room =
        let made = laws.differences (standing s) (standing_in (held_after s c.day c.action))
        (sound_standing laws.least s.held s.next_entry before)
        (sound_standing laws.least (held_after s c.day c.action) (number_after s c.action) after) in
        let more = records_of s c in
        let at_step : All (IsOf (s.step + 1)) more = All-map (IsOf (s.step + 1)) (recorded (s.step + 1) c.day)
        (moves_of s c.day c.action) (λ k d l. refl) in
        record {
          in_order = AllPairs-append ComesBefore s.moves more h.in_order
              (AllPairs-map (recorded (s.step + 1) c.day) ComesBefore (moves_of s c.day c.action)
              (λ i j d l m. inr (refl, made.in_order i j d l m)))
              (All-weaker (IsBy s.step) (λ m. All (ComesBefore m) more)
              (λ m e. All-weaker (IsOf (s.step + 1)) (ComesBefore m) (λ n at. inl (omega (arith, at, e))) more
              at_step) s.moves h.steps);
          steps = All-append (IsBy (s.step + 1)) s.moves more
              (All-weaker (IsBy s.step) (IsBy (s.step + 1)) (λ m e. omega (arith, e)) s.moves h.steps)
              (All-weaker (IsOf (s.step + 1)) (IsBy (s.step + 1)) (λ m e. omega (arith, e)) more at_step);
          few = rw (length-append s.moves more, length-map)
              (ltb-false s.moves_limit (length s.moves + length (moves_of s c.day c.action)) room);
        }

    by : (b : Bool) → refuse_if (nat_lt s.moves_limit (cond b 0 (length s.moves + length (moves_of s c.day c.action))))
        MovesFull ≡ Ok tt
        → AreInOrder (cond b [] (s.moves ++ records_of s c)) (s.step + 1) s.moves_limit
    by true fit = ended
    by false fit = recorded_behind (not_refused _ MovesFull fit)

-- the end of a period leaves what is held
ends_only : (s : State) (day : DayValue) (a : Action) → ends_period a ≡ true → held_after s day a ≡ s.held
ends_only s day (SetCriterion c) h = cc h
ends_only s day (RemoveCriterion n) h = cc h
ends_only s day (AddEntry e) h = cc h
ends_only s day (DropEntry n) h = cc h
ends_only s day (SetPeer settings) h = cc h
ends_only s day (DropPeer n) h = cc h
ends_only s day (ImportPeer n content) h = cc h
ends_only s day (SetPublishers n records) h = cc h
ends_only s day (SetPolicy policy) h = cc h
ends_only s day (DropPolicy key) h = cc h
ends_only s day (LoadProject project) h = cc h
ends_only s day (DropProject n) h = cc h
ends_only s day (ReplaceFiles f) h = cc h
ends_only s day (Desk command) h = cc h
ends_only s day ClosePeriod h = refl
ends_only s day SetDay h = cc h

pub counted_in : (class : Class) (stands : List Stand) → count_in class (counts_of stands) ≡ count_of class stands
counted_in Conflicting stands = refl
counted_in Full stands = refl
counted_in Partial stands = refl
counted_in Exempted stands = refl
counted_in Unvetted stands = refl

balance_sound : MoveLaws → (s : State) (c : Command) → IsBalanced s → IsBalanced (next s c)
balance_sound laws s c b class = by (ends_period c.action) refl
  where
    goes_on : count_in class s.first + arrivals_of class (changes_of (s.moves ++ records_of s c))
        ≡ count_of class (standing_in (held_after s c.day c.action)) + departures_of class
        (changes_of (s.moves ++ records_of s c))
    goes_on =
        let law = laws.balance class (standing s) (standing_in (held_after s c.day c.action)) in
        let a = laws.arrivals class (changes_of s.moves) (moves_of s c.day c.action) in
        let d = laws.departures class (changes_of s.moves) (moves_of s c.day c.action) in
        rw (changes-append s c, a, d) (omega (arith, b class, law))

    by : (e : Bool) → ends_period c.action ≡ e → count_in class (cond e (counts_of (standing s)) s.first) +
        arrivals_of class (changes_of (cond e [] (s.moves ++ records_of s c)))
        ≡ count_of class (standing_in (held_after s c.day c.action)) + departures_of class
        (changes_of (cond e [] (s.moves ++ records_of s c)))
    by true ends = ap (λ n. n + 0)
        (counted_in class (standing s)
        ∙ ap (λ h. count_of class (standing_in h)) (sym (ends_only s c.day c.action ends)))
    by false goes = goes_on

-- the state after a command that was judged, and whose moves fit, if what is held then is sound
pub sound_after : MoveLaws → (s : State) (c : Command) → IsSound s → judged s c.day c.action ≡ Ok Accepted → moves_fit
    s c.day c.action ≡ Ok tt
    → IsSoundHeld (held_after s c.day c.action) (number_after s c.action) → IsSound (next s c)
sound_after laws s c h e fit held =
    let p = passed s c.day c.action e in
    record {
      held = held;
      desk = sound_desk s c.day h c.action p;
      next_number = next_number_follows s c.day c.action p h.next_number;
      last_step = step_follows s (step_passed s c.day c.action p);
      limit = h.limit;
      moves = moves_sound laws s c fit h.held held h.moves;
      balance = balance_sound laws s c h.balance;
    }
