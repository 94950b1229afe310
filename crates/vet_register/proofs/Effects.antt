-- What a command that is accepted leaves of what is held is sound.
use Rattle.std.proofs.Common.{◌≡◌, ◌≢◌, ℕ, ◌+◌, ◌≤◌, ◌&&◌, Bool, true, false, not, is_none, List, [], ◌∷◌, ◌++◌, filter}
use Rattle.std.proofs.Common.{length, Option, Some, None, Ok, Err, refl, sym, ap, subst, cond, ◌∙◌, arith, inl, inr}
use Rattle.std.specs.List.{All, find}
use Rattle.std.specs.Option.{option_map, option_map_or}
use Rattle.std.specs.Prelude.{nat_lt}
use Rattle.std.proofs.lemmas.Bool.{false≢true, ltb-false}
use Rattle.std.proofs.lemmas.List.{length-append}
use Rattle.std.proofs.lemmas.List.Elements.{All-nil, All-cons, All-append, All-weaker, All-filter}
use Rattle.std.proofs.lemmas.List.Kept.{AllPairs-filter}
use Rattle.vet_base.specs.declared.limits.TheConstants.{MOST_ENTRIES, MOST_PEERS, LAST_STEP, LAST_NUMBER}
use Rattle.vet_base.specs.declared.refusal.Limit.TheVariants as limit
use Rattle.vet_base.specs.declared.refusal.Refusal.TheVariants.{TooLarge, UnknownPeer}
use Rattle.vet_base.specs.Criteria.{IsTable}
use Rattle.vet_base.specs.CriteriaChanges.{set_limits}
use Rattle.vet_base.specs.Day.{DayValue}
use Rattle.vet_base.specs.Gives.{Told, ◌>>=◌}
use Rattle.vet_base.proofs.Telling.{not_refused, then_told}
use Rattle.vet_desk.specs.declared.command.DeskCommand.{DeskCommand}
use Rattle.vet_desk.specs.declared.command.DeskCommand.TheVariants.{AddMember, OpenReview, AssignReview, FinishReview}
use Rattle.vet_desk.specs.declared.command.DeskCommand.TheVariants.{WithdrawReview}
use Rattle.vet_desk.specs.Desk.{entry_of}
use Rattle.vet_desk.specs.DeskVerdict.{desk_checked, desk_limits, desk_number, desk_references, desk_rules}
use Rattle.vet_desk.specs.SoundDesk.{AreKnownTo}
use Rattle.vet_entries.specs.declared.entry.Entry.{Entry}
use Rattle.vet_entries.specs.declared.entry.Source.TheVariants.{Own}
use Rattle.vet_entries.specs.declared.facts.HeldEntry.{HeldEntry}
use Rattle.vet_entries.specs.declared.held_peer.HeldPeer.{HeldPeer}
use Rattle.vet_entries.specs.Entry.{entry_eq, own}
use Rattle.vet_entries.specs.EntryLaws.{entry_eq-Decides}
use Rattle.vet_entries.specs.Facts.{Facts, entries_of_peers, entries_total}
use Rattle.vet_entries.specs.HeldPeer.{holding_or_none, imported, peer_of, with_content_of, without_peer}
use Rattle.vet_entries.specs.ImportLaws.{AllDiffer}
use Rattle.vet_entries.specs.Numbered.{Rise, has_number, number_of}
use Rattle.vet_entries.specs.PeerContent.{IsPeerContent, PeerContentValue}
use Rattle.vet_files.specs.FilesContent.{IsFiles}
use Rattle.vet_base.proofs.ItemLemmas.{in_all, in_append, in_filter}
use Rattle.vet_entries.proofs.ImportLaws.{holds_each_once}
use Rattle.vet_entries.proofs.PeerLaws.{entries_with, entries_without, found_name}
use Rattle.vet_register.specs.declared.command.Action.{Action}
use Rattle.vet_register.specs.declared.command.Action.TheVariants.{SetCriterion, RemoveCriterion, AddEntry, DropEntry}
use Rattle.vet_register.specs.declared.command.Action.TheVariants.{SetPeer, DropPeer, ImportPeer, SetPublishers}
use Rattle.vet_register.specs.declared.command.Action.TheVariants.{SetPolicy, DropPolicy, LoadProject, DropProject}
use Rattle.vet_register.specs.declared.command.Action.TheVariants.{ReplaceFiles, Desk, ClosePeriod, SetDay}
use Rattle.vet_register.specs.declared.verdict.Answer.{Answer}
use Rattle.vet_register.specs.declared.verdict.Answer.TheVariants.{Already, Accepted}
use Rattle.vet_register.specs.AtDesk.{added_by, finishes, if_new, unless_held}
use Rattle.vet_register.specs.Machine.{facts_after, number_after, numbers_given, with_entry}
use Rattle.vet_register.specs.Sound.{AreEntries, ArePublishers, AreSound, Differ, IsFrom, IsGiven, IsSoundPeer}
use Rattle.vet_register.specs.State.{State, demanded}
use Rattle.vet_register.specs.Verdict.{checked, entries_beside, entry_limit, entry_limits, held_as, held_or, judged}
use Rattle.vet_register.specs.Verdict.{limits, limits_after_rules, number_limit, peer_limit, policy_limit}
use Rattle.vet_register.specs.Verdict.{project_limit, publisher_limit, references, rules, step_before_rules, step_limit}
use Rattle.vet_register.proofs.FilesEffects.{files_counted, files_entries, files_peers}
use Rattle.vet_register.proofs.FilesPassed.{files_fit}
use Rattle.vet_register.proofs.Known.{known_after}
use Rattle.vet_register.proofs.Lists.{AllPairs-append, AllPairs-single, all_fail, filter-fewer}
use Rattle.vet_register.proofs.PeerEffects.{PeersSound, dropped_peer, found_in, imported_peer, later_entries}
use Rattle.vet_register.proofs.PeerEffects.{own_changed, settings_set}

-- ---- what an accepted command passed

abbrev accepts : Told Answer → Bool
accepts (Ok Accepted) = true
accepts (Ok (Already n)) = false
accepts (Err e) = false

not_held : (o : Option (Option ℕ)) (t : Told (Unit {0})) → held_or o t ≡ Ok Accepted → (o ≡ None) × (t ≡ Ok tt)
not_held None (Ok u) e = (refl, refl)
not_held None (Err r) e = cc e
not_held (Some n) t e = absurd (false≢true (ap accepts e))

pub record Passed (s : State) (day : DayValue) (a : Action) : Type 0 where
  pub held : held_as s day a ≡ None
  pub limits : limits s a ≡ Ok tt
  pub references : references s a ≡ Ok tt
  pub rules : rules s day a ≡ Ok tt

pub passed : (s : State) (day : DayValue) (a : Action) → judged s day a ≡ Ok Accepted → Passed s day a
passed s day a e =
    let free = not_held (held_as s day a) (checked s day a) e in
    let l = then_told (limits s a) (λ _. references s a >>= λ _. rules s day a) tt free.1 in
    let r = then_told (references s a) (λ _. rules s day a) tt l.1 in
    record { held = free.0; limits = l.0; references = r.0; rules = r.1 }

-- what a count of entries, a step and a count of numbers passed
pub record Counted (s : State) (count numbers : ℕ) : Type 0 where
  pub few : count ≤ MOST_ENTRIES
  pub step : step_limit s ≡ Ok tt
  pub number : s.next_entry + numbers ≤ LAST_NUMBER + 1

counts_passed : (s : State) (count numbers : ℕ) →
    (entry_limit count >>= λ _. step_limit s >>= λ _. number_limit s numbers) ≡ Ok tt → Counted s count numbers
counts_passed s count numbers h =
    let l = then_told (entry_limit count) (λ _. step_limit s >>= λ _. number_limit s numbers) tt h in
    let r = then_told (step_limit s) (λ _. number_limit s numbers) tt l.1 in
    record {
      few = ltb-false MOST_ENTRIES count (not_refused _ (TooLarge limit.Entries) l.0);
      step = r.0;
      number = ltb-false (LAST_NUMBER + 1) (s.next_entry + numbers) (not_refused _ (TooLarge limit.Number) r.1);
    }

pub entry_passed : (s : State) (e : Entry) → entry_limits s (Some e) ≡ Ok tt → Counted s
    (entries_total s.held.facts + 1) 1
entry_passed s e h = counts_passed s (entries_total s.held.facts + 1) 1 h

pub import_passed : (s : State) (name : List ℕ) (content : PeerContentValue) → limits s (ImportPeer name content) ≡ Ok
    tt
    → Counted s (entries_beside s.held.facts name + length content.entries) (numbers_given s (ImportPeer name content))
import_passed s name content h = counts_passed s (entries_beside s.held.facts name + length content.entries)
    (numbers_given s (ImportPeer name content)) h

-- ---- what a command to the desk passed

-- a command that finishes no review makes no entry
makes_none : (s : State) (command : DeskCommand) → finishes command ≡ false → added_by s command ≡ None
makes_none s (AddMember name) h = refl
makes_none s (OpenReview name version criteria) h = refl
makes_none s (AssignReview n member) h = refl
makes_none s (FinishReview n member reviewed) h = cc h
makes_none s (WithdrawReview n member) h = refl

-- what passes the desk's parts of the verdict passes the desk
pub passes_desk : (s : State) (command : DeskCommand) → desk_limits s.desk command ≡ Ok tt → desk_number s.desk
    command ≡ Ok tt
    → desk_references s.held.facts.criteria s.desk command ≡ Ok tt → desk_rules (demanded s) s.desk command ≡ Ok tt
    → desk_checked s.held.facts.criteria (demanded s) s.desk command ≡ Ok tt
passes_desk s command limits number references rules =
    let last = desk_rules (demanded s) s.desk command in
    let third = desk_references s.held.facts.criteria s.desk command in
    ap (λ t. t >>= λ _. desk_number s.desk command >>= λ _. third >>= λ _. last) limits ∙ ap
    (λ t. t >>= λ _. third >>= λ _. last) number
    ∙ ap (λ t. t >>= λ _. last) references ∙ rules

-- what the desk asks, a step and, where an entry is added, room and a number for it
pub record PassedAtDesk (s : State) (command : DeskCommand) : Type 0 where
  pub checked : desk_checked s.held.facts.criteria (demanded s) s.desk command ≡ Ok tt
  pub step : step_limit s ≡ Ok tt
  pub entry : (e : Entry) → added_by s command ≡ Some e → Counted s (entries_total s.held.facts + 1) 1

pub passed_at_desk : (s : State) (day : DayValue) (command : DeskCommand) → Passed s day (Desk command) → PassedAtDesk
    s command
passed_at_desk s day command p = by (finishes command) refl step.0 last.1
  where
    first : (desk_limits s.desk command ≡ Ok tt) ×
        ((step_before_rules s command >>= λ _. desk_number s.desk command) ≡ Ok tt)
    first = then_told (desk_limits s.desk command)
        (λ _. step_before_rules s command >>= λ _. desk_number s.desk command) tt p.limits

    step : (step_before_rules s command ≡ Ok tt) × (desk_number s.desk command ≡ Ok tt)
    step = then_told (step_before_rules s command) (λ _. desk_number s.desk command) tt first.1

    last : (desk_rules (demanded s) s.desk command ≡ Ok tt) × (limits_after_rules s command ≡ Ok tt)
    last = then_told (desk_rules (demanded s) s.desk command) (λ _. limits_after_rules s command) tt p.rules

    all : desk_checked s.held.facts.criteria (demanded s) s.desk command ≡ Ok tt
    all = passes_desk s command first.0 step.1 p.references last.0

    added : (o : Option Entry) → added_by s command ≡ o → entry_limits s o ≡ Ok tt → PassedAtDesk s command
    added None made h = record { checked = all; step = h; entry = λ e is. cc (sym made ∙ is) }
    added (Some x) made h = record
        { checked = all; step = (entry_passed s x h).step; entry = λ e is. entry_passed s x h }

    by : (b : Bool) → finishes command ≡ b → cond b (Ok tt) (step_limit s) ≡ Ok tt → cond b
        (entry_limits s (added_by s command)) (Ok tt) ≡ Ok tt → PassedAtDesk s command
    by true finishes before after = added (added_by s command) refl after
    by false other before after = record
        { checked = all; step = before; entry = λ e is. cc (sym (makes_none s command other) ∙ is) }

-- a step follows
pub step_passed : (s : State) (day : DayValue) (a : Action) → Passed s day a → step_limit s ≡ Ok tt
step_passed s day (SetCriterion c) p =
    (then_told (set_limits s.held.facts.criteria c.name) (λ _. step_limit s) tt p.limits).1
step_passed s day (RemoveCriterion n) p = p.limits
step_passed s day (AddEntry e) p = (entry_passed s e p.limits).step
step_passed s day (DropEntry n) p = p.limits
step_passed s day (SetPeer settings) p = (then_told (peer_limit s settings.name) (λ _. step_limit s) tt p.limits).1
step_passed s day (DropPeer n) p = p.limits
step_passed s day (ImportPeer n content) p = (import_passed s n content p.limits).step
step_passed s day (SetPublishers n records) p =
    (then_told (publisher_limit s n records) (λ _. step_limit s) tt p.limits).1
step_passed s day (SetPolicy policy) p = (then_told (policy_limit s policy.key) (λ _. step_limit s) tt p.limits).1
step_passed s day (DropPolicy key) p = p.limits
step_passed s day (LoadProject project) p = (then_told (project_limit s project.name) (λ _. step_limit s) tt p.limits).1
step_passed s day (DropProject n) p = p.limits
step_passed s day (ReplaceFiles f) p = (files_fit s f p.limits).step
step_passed s day (Desk command) p = (passed_at_desk s day command p).step
step_passed s day ClosePeriod p = p.limits
step_passed s day SetDay p = p.limits

pub step_follows : (s : State) → step_limit s ≡ Ok tt → s.step + 1 ≤ LAST_STEP
step_follows s h = ltb-false LAST_STEP (s.step + 1) (not_refused _ (TooLarge limit.Step) h)

pub next_number_follows : (s : State) (day : DayValue) (a : Action) → Passed s day a → s.next_entry ≤ LAST_NUMBER + 1
    → number_after s a ≤ LAST_NUMBER + 1
next_number_follows s day (SetCriterion c) p h = omega (arith, h)
next_number_follows s day (RemoveCriterion n) p h = omega (arith, h)
next_number_follows s day (AddEntry e) p h = (entry_passed s e p.limits).number
next_number_follows s day (DropEntry n) p h = omega (arith, h)
next_number_follows s day (SetPeer settings) p h = omega (arith, h)
next_number_follows s day (DropPeer n) p h = omega (arith, h)
next_number_follows s day (ImportPeer n content) p h = (import_passed s n content p.limits).number
next_number_follows s day (SetPublishers n records) p h = omega (arith, h)
next_number_follows s day (SetPolicy policy) p h = omega (arith, h)
next_number_follows s day (DropPolicy key) p h = omega (arith, h)
next_number_follows s day (LoadProject project) p h = omega (arith, h)
next_number_follows s day (DropProject n) p h = omega (arith, h)
next_number_follows s day (ReplaceFiles f) p h = (files_fit s f p.limits).number
next_number_follows s day (Desk command) p h = by (added_by s command) refl
  where
    by : (o : Option Entry) → added_by s command ≡ o → s.next_entry + option_map_or (λ _. 1) o 0 ≤ LAST_NUMBER + 1
    by None made = omega (arith, h)
    by (Some e) made = ((passed_at_desk s day command p).entry e made).number
next_number_follows s day ClosePeriod p h = omega (arith, h)
next_number_follows s day SetDay p h = omega (arith, h)

-- ---- own entries

other_entries : (entries : List HeldEntry) (e : Entry) → number_of entries e ≡ None → All (λ h. h.entry ≢ own e) entries
other_entries entries e h =
    All-weaker (λ x. entry_eq x.entry (own e) ≡ false) (λ x. x.entry ≢ own e)
    (λ x differs same. false≢true (sym differs ∙ (entry_eq-Decides x.entry (own e)).1 same)) entries
    (all_fail (λ x. entry_eq x.entry (own e)) entries (none_held (find (λ x. entry_eq x.entry (own e)) entries) h))
  where
    none_held : (o : Option HeldEntry) → option_map (λ h. h.number) o ≡ None → o ≡ None
    none_held None h = refl
    none_held (Some x) h = cc h

none_under : (o : Option ℕ) → option_map (λ n. Some n) o ≡ None → o ≡ None
none_under None h = refl
none_under (Some n) h = cc h

-- entries that stay
same_entries : (entries : List HeldEntry) (n : ℕ) (keeps : HeldEntry → Bool) → AreEntries Own entries n → AreEntries
    Own (filter keeps entries) n
same_entries entries n keeps h = record {
  from = All-filter keeps (IsFrom Own) entries h.from;
  different = AllPairs-filter Differ keeps entries h.different;
  numbers_rise = AllPairs-filter Rise keeps entries h.numbers_rise;
  numbers_given = All-filter keeps (IsGiven n) entries h.numbers_given;
}

-- one entry more
one_more : (n : ℕ) (e : Entry) (entries : List HeldEntry) → AreEntries Own entries n → All (λ h. h.entry ≢ own e)
    entries
    → AreEntries Own (entries ++ (record { number = n; entry = own e }) ∷ []) (n + 1)
one_more n e entries h other =
    let new : HeldEntry = record { number = n; entry = own e } in
    record {
      from = All-append (IsFrom Own) entries (new ∷ []) h.from (All-cons (IsFrom Own) new [] refl (All-nil _));
      different = AllPairs-append Differ entries (new ∷ []) h.different (AllPairs-single Differ new)
          (All-weaker (λ x. x.entry ≢ own e) (λ x. All (Differ x) (new ∷ []))
          (λ x d. All-cons (Differ x) new [] d (All-nil _)) entries other);
      numbers_rise = AllPairs-append Rise entries (new ∷ []) h.numbers_rise (AllPairs-single Rise new)
          (All-weaker (IsGiven n) (λ x. All (Rise x) (new ∷ [])) (λ x d. All-cons (Rise x) new [] d (All-nil _))
          entries h.numbers_given);
      numbers_given = All-append (IsGiven (n + 1)) entries (new ∷ [])
          (All-weaker (IsGiven n) (IsGiven (n + 1)) (λ x p. omega (arith, p)) entries h.numbers_given)
          (All-cons (IsGiven (n + 1)) new [] (omega arith) (All-nil _));
    }

-- what is new of what is made isn't held
pub new_is_unheld : (facts : Facts) (o : Option Entry) (e : Entry) → if_new facts o ≡ Some e → number_of facts.entries
    e ≡ None
new_is_unheld facts None e h = cc h
new_is_unheld facts (Some x) e h = by (number_of facts.entries x) refl h
  where
    by : (n : Option ℕ) → number_of facts.entries x ≡ n → unless_held n x ≡ Some e → number_of facts.entries e ≡ None
    by None none h = (let is : x ≡ e = cc h in subst (λ (y : Entry). number_of facts.entries y ≡ None) is none)
    by (Some n) held h = cc h

-- an own entry more, where there is one that isn't held
module _ (s : State) where
  added_entries : (o : Option Entry) → ((e : Entry) → o ≡ Some e → number_of s.held.facts.entries e ≡ None) →
      AreEntries Own s.held.facts.entries s.next_entry
      → AreEntries Own (with_entry s.next_entry o s.held.facts).entries (s.next_entry + option_map_or (λ _. 1) o 0)
  added_entries None new h = later_entries Own s.held.facts.entries s.next_entry _ (omega arith) h
  added_entries (Some e) new h = one_more s.next_entry e s.held.facts.entries h
      (other_entries s.held.facts.entries e (new e refl))

  added_beside : (o : Option Entry) → PeersSound s.held.facts.entries s.held.facts.peers s.next_entry
      → PeersSound (with_entry s.next_entry o s.held.facts).entries (with_entry s.next_entry o s.held.facts).peers
      (s.next_entry + option_map_or (λ _. 1) o 0)
  added_beside None h = own_changed s.held.facts.entries s.held.facts.entries s.held.facts.peers s.next_entry _
      (omega arith) (λ x i. inl i) h
  added_beside (Some e) h =
      let new : HeldEntry = record { number = s.next_entry; entry = own e } in
      own_changed s.held.facts.entries (s.held.facts.entries ++ new ∷ []) s.held.facts.peers s.next_entry
      (s.next_entry + 1) (omega arith)
      (λ x i. elim (in_append s.held.facts.entries (new ∷ []) x i) [
        | inl held ↦ inl held
        | inr last ↦ elim last [
          | inl same ↦ (let at : x.number ≡ s.next_entry = ap (λ h. h.number) same in inr (omega (arith, at)))
          | inr more ↦ absurd more
        ]
      ]) h

  added_counted : (o : Option Entry) → ((e : Entry) → o ≡ Some e → Counted s (entries_total s.held.facts + 1) 1) →
      entries_total s.held.facts ≤ MOST_ENTRIES
      → entries_total (with_entry s.next_entry o s.held.facts) ≤ MOST_ENTRIES
  added_counted None counted few = few
  added_counted (Some e) counted few =
      let new : HeldEntry = record { number = s.next_entry; entry = own e } in
      omega (arith, (counted e refl).few, length-append s.held.facts.entries (new ∷ []))

-- what is imported is what a reader gives, and so are files
abbrev pub IsGivenContent : Action → Type 0
IsGivenContent (ImportPeer name content) = IsPeerContent content.criteria content.entries
IsGivenContent (ReplaceFiles files) = IsFiles files
IsGivenContent _ = Unit {0}

-- the entries after a command
entries_after : (s : State) (day : DayValue) (a : Action) → Passed s day a → IsGivenContent a → AreEntries Own
    s.held.facts.entries s.next_entry
    → AreEntries Own (facts_after s day a).entries (number_after s a)
entries_after s day (SetCriterion c) p given h = later_entries Own s.held.facts.entries s.next_entry _ (omega arith) h
entries_after s day (RemoveCriterion n) p given h = later_entries Own s.held.facts.entries s.next_entry _
    (omega arith) h
entries_after s day (AddEntry e) p given h =
    let none = none_under (number_of s.held.facts.entries e) p.held in
    added_entries s (Some e)
    (λ x same. (let is : e ≡ x = cc same in subst (λ (y : Entry). number_of s.held.facts.entries y ≡ None) is
    none)) h
entries_after s day (DropEntry n) p given h =
    let keeps : HeldEntry → Bool = λ h. not (has_number n h) in
    later_entries Own (filter keeps s.held.facts.entries) s.next_entry _ (omega arith)
    (same_entries s.held.facts.entries s.next_entry keeps h)
entries_after s day (SetPeer settings) p given h = later_entries Own s.held.facts.entries s.next_entry _ (omega arith) h
entries_after s day (DropPeer n) p given h = later_entries Own s.held.facts.entries s.next_entry _ (omega arith) h
entries_after s day (ImportPeer n content) p given h = later_entries Own s.held.facts.entries s.next_entry _
    (omega arith) h
entries_after s day (SetPublishers n records) p given h = later_entries Own s.held.facts.entries s.next_entry _
    (omega arith) h
entries_after s day (SetPolicy policy) p given h = later_entries Own s.held.facts.entries s.next_entry _ (omega arith) h
entries_after s day (DropPolicy key) p given h = later_entries Own s.held.facts.entries s.next_entry _ (omega arith) h
entries_after s day (LoadProject project) p given h = later_entries Own s.held.facts.entries s.next_entry _
    (omega arith) h
entries_after s day (DropProject n) p given h = later_entries Own s.held.facts.entries s.next_entry _ (omega arith) h
entries_after s day (ReplaceFiles f) p given h = files_entries s f given h
entries_after s day (Desk command) p given h = added_entries s (added_by s command)
    (new_is_unheld s.held.facts (entry_of s.desk command)) h
entries_after s day ClosePeriod p given h = later_entries Own s.held.facts.entries s.next_entry _ (omega arith) h
entries_after s day SetDay p given h = later_entries Own s.held.facts.entries s.next_entry _ (omega arith) h

-- ---- peers

stay : (s : State) (m : ℕ) → s.next_entry ≤ m → PeersSound s.held.facts.entries s.held.facts.peers s.next_entry →
    PeersSound s.held.facts.entries s.held.facts.peers m
stay s m above h = own_changed s.held.facts.entries s.held.facts.entries s.held.facts.peers s.next_entry m above
    (λ x i. inl i) h

-- the peers after a command
peers_after : (s : State) (day : DayValue) (a : Action) → Passed s day a → AreEntries Own s.held.facts.entries
    s.next_entry → IsGivenContent a
    → PeersSound s.held.facts.entries s.held.facts.peers s.next_entry → PeersSound (facts_after s day a).entries
    (facts_after s day a).peers (number_after s a)
peers_after s day (SetCriterion c) p own given h = stay s _ (omega arith) h
peers_after s day (RemoveCriterion n) p own given h = stay s _ (omega arith) h
peers_after s day (AddEntry e) p mine given h = added_beside s (Some e) h
peers_after s day (DropEntry n) p own given h =
    let keeps : HeldEntry → Bool = λ h. not (has_number n h) in
    own_changed s.held.facts.entries (filter keeps s.held.facts.entries) s.held.facts.peers s.next_entry _
    (omega arith) (λ x i. inl (in_filter keeps s.held.facts.entries x i).0) h
peers_after s day (SetPeer settings) p own given h =
    let l = then_told (peer_limit s settings.name) (λ _. step_limit s) tt p.limits in
    settings_set s.held.facts.entries s.held.facts.peers settings s.next_entry h _ (omega arith)
    (not_refused (is_none (peer_of s.held.facts.peers settings.name) && nat_lt MOST_PEERS
    (length s.held.facts.peers + 1)) (TooLarge limit.Peers) l.0)
peers_after s day (DropPeer n) p own given h = dropped_peer s.held.facts.entries s.held.facts.peers n s.next_entry _
    (omega arith) h
peers_after s day (ImportPeer n content) p own given h =
    imported_peer s.held.facts.entries s.held.facts.peers n s.next_entry content h own.numbers_given given
    (peer_of s.held.facts.peers n) refl
    (not_refused (is_none (peer_of s.held.facts.peers n)) UnknownPeer p.references)
peers_after s day (SetPublishers n records) p own given h = stay s _ (omega arith) h
peers_after s day (SetPolicy policy) p own given h = stay s _ (omega arith) h
peers_after s day (DropPolicy key) p own given h = stay s _ (omega arith) h
peers_after s day (LoadProject project) p own given h = stay s _ (omega arith) h
peers_after s day (DropProject n) p own given h = stay s _ (omega arith) h
peers_after s day (ReplaceFiles f) p own given h = files_peers s f given own h (files_fit s f p.limits).peers
peers_after s day (Desk command) p own given h = added_beside s (added_by s command) h
peers_after s day ClosePeriod p own given h = stay s _ (omega arith) h
peers_after s day SetDay p own given h = stay s _ (omega arith) h

-- ---- how many entries there are

-- an import of a held peer counts its entries in place of those held
import_counted : (s : State) (name : List ℕ) (content : PeerContentValue) → PeersSound s.held.facts.entries
    s.held.facts.peers s.next_entry
    → IsPeerContent content.criteria content.entries → length s.held.facts.entries + entries_of_peers
    (without_peer name s.held.facts.peers) + length content.entries ≤ MOST_ENTRIES
    → (o : Option HeldPeer) → peer_of s.held.facts.peers name ≡ o → is_none o ≡ false
    → length s.held.facts.entries + entries_of_peers
    (with_content_of o (imported name s.next_entry content (holding_or_none o)) s.held.facts.peers) ≤ MOST_ENTRIES
import_counted s name content h is few None e some = absurd (false≢true (sym some))
import_counted s name content h is few (Some x) e some =
    let peers = s.held.facts.peers in
    let same : x.settings.name ≡ name = found_name peers name x e in
    let new : HeldPeer = record x { content = imported name s.next_entry content x.content } in
    let different : AllDiffer x.content.entries =
    (in_all (IsSoundPeer s.next_entry) peers h.are.sound x (found_in peers name x e)).entries.different in
    let count : length new.content.entries ≡ length content.entries =
    (holds_each_once name s.next_entry x.content.entries content is different).1 in
    let held : length (holding_or_none (peer_of peers name)).entries ≡ length x.content.entries = ap
    (λ o. length (holding_or_none o).entries) e in
    let at : length (holding_or_none (peer_of peers x.settings.name)).entries ≡ length x.content.entries =
    ap (λ o. length (holding_or_none o).entries) (ap (peer_of peers) same ∙ e) in
    omega (arith, few, count, held, at, entries_with peers new h.are.by_name, entries_without peers name h.are.by_name)

counted_after : (s : State) (day : DayValue) (a : Action) → Passed s day a → AreEntries Own s.held.facts.entries
    s.next_entry → IsGivenContent a → PeersSound s.held.facts.entries s.held.facts.peers s.next_entry
    → entries_total s.held.facts ≤ MOST_ENTRIES → entries_total (facts_after s day a) ≤ MOST_ENTRIES
counted_after s day (SetCriterion c) p own given h few = few
counted_after s day (RemoveCriterion n) p own given h few = few
counted_after s day (AddEntry e) p mine given h few = added_counted s (Some e) (λ x same. entry_passed s e p.limits) few
counted_after s day (DropEntry n) p own given h few = omega
    (arith, few, filter-fewer (λ h. not (has_number n h)) s.held.facts.entries)
counted_after s day (SetPeer settings) p own given h few =
    let new : HeldPeer = record
    { settings = settings; content = holding_or_none (peer_of s.held.facts.peers settings.name) } in
    omega (arith, few, entries_with s.held.facts.peers new h.are.by_name)
counted_after s day (DropPeer n) p own given h few = omega
    (arith, few, entries_without s.held.facts.peers n h.are.by_name)
counted_after s day (ImportPeer n content) p own given h few =
    import_counted s n content h given (import_passed s n content p.limits).few (peer_of s.held.facts.peers n) refl
    (not_refused (is_none (peer_of s.held.facts.peers n)) UnknownPeer p.references)
counted_after s day (SetPublishers n records) p own given h few = few
counted_after s day (SetPolicy policy) p own given h few = few
counted_after s day (DropPolicy key) p own given h few = few
counted_after s day (LoadProject project) p own given h few = few
counted_after s day (DropProject n) p own given h few = few
counted_after s day (ReplaceFiles f) p own given h few = omega
    (arith, files_counted s f given own h, (files_fit s f p.limits).entries)
counted_after s day (Desk command) p own given h few = added_counted s (added_by s command)
    (passed_at_desk s day command p).entry few
counted_after s day ClosePeriod p own given h few = few
counted_after s day SetDay p own given h few = few

-- what is held after a command, if its criteria and its publisher records are sound, and what is imported or put in
-- place is what a reader gives
pub sound_effect : (s : State) (day : DayValue) (a : Action) → judged s day a ≡ Ok Accepted → AreSound s.held.facts
    s.next_entry
    → AreKnownTo s.held.facts.criteria s.desk.reviews → IsGivenContent a
    → IsTable (facts_after s day a).criteria → ArePublishers (facts_after s day a).publishers
    → AreSound (facts_after s day a) (number_after s a)
sound_effect s day a e h at given is are =
    let p = passed s day a e in
    let now : PeersSound s.held.facts.entries s.held.facts.peers s.next_entry = record
    { are = h.peers; apart = h.apart } in
    let after = peers_after s day a p h.entries given now in
    record {
      criteria = is;
      known = known_after s day a h.known at p.references p.rules;
      entries = entries_after s day a p given h.entries;
      peers = after.are;
      apart = after.apart;
      few = counted_after s day a p h.entries given now h.few;
      publishers = are;
    }
