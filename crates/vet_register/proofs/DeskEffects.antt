-- What a command that is accepted leaves at the desk is sound.
use Rattle.std.proofs.Common.{ℕ, ◌+◌, ◌<◌, ◌≤◌, List, [], ◌∷◌, IfSome, Option, Some, None, Bool, option_map, sym, subst}
use Rattle.std.proofs.Common.{arith, inl, inr}
use Rattle.std.specs.List.{All, find}
use Rattle.std.specs.Option.{option_map_or, unwrap_or}
use Rattle.std.proofs.lemmas.Bool.{cases_Bool}
use Rattle.std.proofs.lemmas.List.Elements.{All-head, All-tail, All-weaker}
use Rattle.vet_base.specs.Criteria.{Criteria}
use Rattle.vet_base.specs.Day.{DayValue}
use Rattle.vet_base.specs.Defined.{defined}
use Rattle.vet_base.specs.Names.{NameSet}
use Rattle.vet_desk.specs.declared.command.DeskCommand.{DeskCommand}
use Rattle.vet_desk.specs.declared.review.Review.{Review}
use Rattle.vet_desk.specs.declared.review.ReviewState.{ReviewState}
use Rattle.vet_desk.specs.declared.review.ReviewState.TheVariants.{Waiting, Assigned, Finished, Withdrawn}
use Rattle.vet_desk.specs.Desk.{entry_of}
use Rattle.vet_desk.specs.SoundDesk.{AreKnownTo, HasEntryGiven, HaveEntriesGiven, IsEntryGiven, IsKnownTo}
use Rattle.vet_desk.proofs.DeskLaws.{known_is_not_beyond, stay_given, stay_known, stays_sound, unnamed_may_go}
use Rattle.vet_entries.specs.declared.entry.Entry.{Entry}
use Rattle.vet_entries.specs.declared.facts.HeldEntry.{HeldEntry}
use Rattle.vet_entries.specs.Entry.{entry_eq, own}
use Rattle.vet_entries.specs.Numbered.{number_of}
use Rattle.vet_register.specs.declared.command.Action.{Action}
use Rattle.vet_register.specs.declared.command.Action.TheVariants.{SetCriterion, RemoveCriterion, AddEntry, DropEntry}
use Rattle.vet_register.specs.declared.command.Action.TheVariants.{SetPeer, DropPeer, ImportPeer, SetPublishers}
use Rattle.vet_register.specs.declared.command.Action.TheVariants.{SetPolicy, DropPolicy, LoadProject, DropProject}
use Rattle.vet_register.specs.declared.command.Action.TheVariants.{ReplaceFiles, Desk, ClosePeriod, SetDay}
use Rattle.vet_register.specs.AtDesk.{added_by, entry_number, if_new, unless_held}
use Rattle.vet_register.specs.Machine.{desk_by, facts_after, number_after}
use Rattle.vet_register.specs.Sound.{IsGiven, IsSound, IsSoundAtDesk}
use Rattle.vet_register.specs.State.{State, demanded}
use Rattle.vet_register.proofs.Effects.{Passed, passed_at_desk}
use Rattle.vet_register.proofs.FilesPassed.{what_stays}
use Rattle.vet_register.proofs.HeldEffects.{same_criteria}
use Rattle.vet_register.proofs.Known.{known_without, stays_known, unused}

-- ---- numbers of entries

given_later : (next later : ℕ) → next ≤ later → (state : ReviewState) → IsEntryGiven next state → IsEntryGiven later
    state
given_later next later le Waiting h = tt
given_later next later le (Assigned member) h = tt
given_later next later le (Finished entry) h = omega (arith, le, h)
given_later next later le Withdrawn h = tt

still_given : (next later : ℕ) (reviews : List Review) → next ≤ later → HaveEntriesGiven next reviews →
    HaveEntriesGiven later reviews
still_given next later reviews le h = All-weaker (HasEntryGiven next) (HasEntryGiven later)
    (λ (r : Review). given_later next later le r.state) reviews h

-- what is found has what each has
found_has : {X : Type 0} (P : X → Type 0) (test : X → Bool) (xs : List X) → All P xs → IfSome (find test xs) P
found_has P test [] h = tt
found_has P test (x ∷ xs) h = elim (cases_Bool (test x)) [
  | inl passes ↦ rw passes (All-head P x xs h)
  | inr fails ↦ rw fails (found_has P test xs (All-tail P x xs h))
]

-- the number of a held entry lies below the next one
number_given_to : (entries : List HeldEntry) (e : Entry) (next : ℕ) → All (IsGiven next) entries → IfSome
    (number_of entries e) (λ n. n < next)
number_given_to entries e next h = by (find (λ x. entry_eq x.entry (own e)) entries)
    (found_has (IsGiven next) (λ x. entry_eq x.entry (own e)) entries h)
  where
    by : (o : Option HeldEntry) → IfSome o (IsGiven next) → IfSome (option_map (λ h. h.number) o) (λ n. n < next)
    by None h = tt
    by (Some x) h = h

-- so does the number of a finished review's entry below the one after the command
entry_given : (s : State) (command : DeskCommand) → All (IsGiven s.next_entry) s.held.facts.entries → IfSome
    (entry_number s command) (λ n. n < number_after s (Desk command))
entry_given s command given = made (entry_of s.desk command)
  where
    made : (o : Option Entry) → IfSome (option_map (λ e. unwrap_or (number_of s.held.facts.entries e) s.next_entry) o)
        (λ n. n < s.next_entry + option_map_or (λ _. 1) (if_new s.held.facts o) 0)
    made None = tt
    made (Some e) = by (number_of s.held.facts.entries e) (number_given_to s.held.facts.entries e s.next_entry given)
      where
        by : (n : Option ℕ) → IfSome n (λ n. n < s.next_entry) → unwrap_or n s.next_entry < s.next_entry +
            option_map_or (λ _. 1) (unless_held n e) 0
        by None below = omega arith
        by (Some n) below = omega (arith, below)

-- ---- the desk after a command

-- the desk stays, and what its reviews name is known
same_desk : (s : State) (criteria : Criteria) (later : ℕ) → IsSoundAtDesk s.held.facts.criteria s.desk s.next_entry →
    s.next_entry ≤ later
    → AreKnownTo criteria s.desk.reviews → IsSoundAtDesk criteria s.desk later
same_desk s criteria later h le known = record
    { desk = h.desk; known = known; entries_given = still_given s.next_entry later s.desk.reviews le h.entries_given }

module _ (s : State) (day : DayValue) (h : IsSound s) where
  abbrev criteria : Criteria
  criteria = s.held.facts.criteria

  pub sound_desk : (a : Action) → Passed s day a → IsSoundAtDesk (facts_after s day a).criteria (desk_by s day a)
      (number_after s a)
  sound_desk (SetCriterion c) p =
      same_desk s _ _ h.desk (omega arith)
      (All-weaker (IsKnownTo criteria) (IsKnownTo _)
      (λ (r : Review). λ k unclosed. stays_known criteria c r.criteria (k unclosed)) s.desk.reviews h.desk.known)
  sound_desk (RemoveCriterion n) p =
      same_desk s _ _ h.desk (omega arith)
      (unnamed_may_go criteria _ n s.desk.reviews (λ (names : NameSet). known_without criteria n names)
      (unused s day n p.rules).reviews h.desk.known)
  sound_desk (AddEntry e) p = same_desk s _ _ h.desk (omega arith) h.desk.known
  sound_desk (DropEntry n) p = same_desk s _ _ h.desk (omega arith) h.desk.known
  sound_desk (SetPeer settings) p = same_desk s _ _ h.desk (omega arith) h.desk.known
  sound_desk (DropPeer n) p = same_desk s _ _ h.desk (omega arith) h.desk.known
  sound_desk (ImportPeer n content) p = same_desk s _ _ h.desk (omega arith) h.desk.known
  sound_desk (SetPublishers n records) p = same_desk s _ _ h.desk (omega arith) h.desk.known
  sound_desk (SetPolicy policy) p = same_desk s _ _ h.desk (omega arith) h.desk.known
  sound_desk (DropPolicy key) p = same_desk s _ _ h.desk (omega arith) h.desk.known
  sound_desk (LoadProject project) p = same_desk s _ _ h.desk (omega arith) h.desk.known
  sound_desk (DropProject n) p = same_desk s _ _ h.desk (omega arith) h.desk.known
  sound_desk (ReplaceFiles f) p =
      same_desk s _ _ h.desk (omega arith)
      ((known_is_not_beyond (defined f.criteria) s.desk.reviews).0 (what_stays s day f p.rules).0)
  sound_desk (Desk command) p =
      let checked = (passed_at_desk s day command p).checked in
      let entry = entry_number s command in
      let later = number_after s (Desk command) in
      subst (λ (t : Criteria). IsSoundAtDesk t (desk_by s day (Desk command)) later)
      (sym (same_criteria s.next_entry (added_by s command) s.held.facts)) (record {
        desk = stays_sound criteria (demanded s) s.desk day entry command checked h.desk.desk;
        known = stay_known criteria (demanded s) s.desk day entry command checked h.desk.known;
        entries_given = stay_given s.next_entry later s.desk day entry command (omega arith)
            (entry_given s command h.held.facts.entries.numbers_given) h.desk.entries_given;
      })
  sound_desk ClosePeriod p = same_desk s _ _ h.desk (omega arith) h.desk.known
  sound_desk SetDay p = same_desk s _ _ h.desk (omega arith) h.desk.known
