-- What is known of three files that are accepted: they keep the limits, and each name in them and in what is kept is
-- known.
use Rattle.std.proofs.Common.{◌≡◌, ◌∙◌, ◌⊎◌, ℕ, ◌+◌, ◌≤◌, true, false, not, List, [], ◌∷◌, length, None, Ok, ap}
use Rattle.std.proofs.Common.{inl, inr}
use Rattle.std.specs.FinMap as map
use Rattle.std.specs.List.{All, list_any}
use Rattle.std.specs.Prelude.{nat_lt}
use Rattle.std.proofs.lemmas.Bool.{ltb-false, or_parts}
use Rattle.std.proofs.lemmas.List.Elements.{All-cons, All-head, All-nil, All-tail, All-weaker}
use Rattle.vet_base.specs.declared.limits.TheConstants.{LAST_NUMBER, MOST_ENTRIES, MOST_PEERS, MOST_POLICIES}
use Rattle.vet_base.specs.declared.limits.TheConstants.{MOST_PUBLISHERS}
use Rattle.vet_base.specs.declared.refusal.Limit.TheVariants as limit
use Rattle.vet_base.specs.declared.refusal.Refusal.TheVariants.{CriterionInUse, TooLarge, UnknownPeer}
use Rattle.vet_base.specs.Criteria.{Criteria, least_unknown}
use Rattle.vet_base.specs.CriteriaChanges.{known}
use Rattle.vet_base.specs.Day.{DayValue}
use Rattle.vet_base.specs.Defined.{defined, least_undefined, table_told}
use Rattle.vet_base.specs.Gives.{Told, refuse_if, ◌>>=◌}
use Rattle.vet_base.specs.Items.{IsIn}
use Rattle.vet_base.proofs.ItemLemmas.{in_all, in_map}
use Rattle.vet_base.proofs.Telling.{all_known, not_refused, then_told}
use Rattle.vet_demand.specs.declared.policies.KeyedPolicy.{KeyedPolicy}
use Rattle.vet_demand.specs.DemandOf.{PoliciesAreKnown, PolicyIsKnown}
use Rattle.vet_demand.specs.PolicyNames.{names_in}
use Rattle.vet_demand.proofs.Naming.{known_with}
use Rattle.vet_desk.specs.Review.{are_open_beyond}
use Rattle.vet_entries.specs.declared.entry.Entry.{Entry}
use Rattle.vet_entries.specs.declared.entry.Source.TheVariants.{Own}
use Rattle.vet_entries.specs.declared.facts.HeldEntry.{HeldEntry}
use Rattle.vet_entries.specs.declared.held_peer.HeldPeer.{HeldPeer}
use Rattle.vet_entries.specs.declared.peer_settings.PeerSettings.{PeerSettings}
use Rattle.vet_entries.specs.Entry.{of_source}
use Rattle.vet_entries.specs.Facts.{Facts}
use Rattle.vet_entries.specs.PeerWords.{targets}
use Rattle.vet_entries.specs.PublisherRecords.{records_total}
use Rattle.vet_entries.specs.Replaced.{as_of, entries_after, is_dated, is_dated_beyond}
use Rattle.vet_entries.specs.Step.{AreKnown, HasKnownCriteria, HasKnownTargets}
use Rattle.vet_entries.proofs.ImportLaws.{entries_are_taken}
use Rattle.vet_files.specs.FilesContent.{FilesValue, IsFiles, each_is_set}
use Rattle.vet_files.specs.declared.imports_file.ImportedPeer.{ImportedPeer}
use Rattle.vet_register.specs.declared.command.Action.TheVariants.{ReplaceFiles}
use Rattle.vet_register.specs.NamesOfFiles.{counted, unknown_of_entries, unknown_of_files, unknown_of_policies}
use Rattle.vet_register.specs.Replacing.{entries_of_files, facts_of_files, new_of_files, new_of_peer, peer_after}
use Rattle.vet_register.specs.Replacing.{peers_after}
use Rattle.vet_register.specs.Sound.{ArePublishers}
use Rattle.vet_register.specs.State.{State}
use Rattle.vet_register.specs.Verdict.{entry_limit, files_limits, files_references, limits, names_beyond, number_limit}
use Rattle.vet_register.specs.Verdict.{rules, step_limit}
use Rattle.vet_register.proofs.DatedEntries.{dated_known}
use Rattle.vet_register.proofs.UnknownNames.{few_counted, none_left, table_of}

-- ---- limits

pub record FilesFit (s : State) (f : FilesValue) : Type 0 where
  pub criteria : counted (defined f.criteria) ≡ Ok tt
  pub peers : length f.settings ≤ MOST_PEERS
  pub entries : entries_of_files s.held.facts f ≤ MOST_ENTRIES
  pub records : records_total f.publishers ≤ MOST_PUBLISHERS
  pub policies : length f.policies ≤ MOST_POLICIES
  pub step : step_limit s ≡ Ok tt
  pub number : s.next_entry + new_of_files s.held.facts f ≤ LAST_NUMBER + 1

module _ (s : State) (f : FilesValue) where
  abbrev of_number : Told (Unit {0})
  of_number = step_limit s >>= λ _. number_limit s (new_of_files s.held.facts f)

  abbrev of_policies : Told (Unit {0})
  of_policies = refuse_if (nat_lt MOST_POLICIES (length f.policies)) (TooLarge limit.Policies) >>= λ _. of_number

  abbrev of_publishers : Told (Unit {0})
  of_publishers = refuse_if (nat_lt MOST_PUBLISHERS (records_total f.publishers)) (TooLarge limit.Publishers) >>= λ _.
      of_policies

  abbrev of_entries : Told (Unit {0})
  of_entries = entry_limit (entries_of_files s.held.facts f) >>= λ _. of_publishers

  pub files_fit : limits s (ReplaceFiles f) ≡ Ok tt → FilesFit s f
  files_fit h =
      let first = then_told (counted (defined f.criteria)) (λ _. files_limits s f) tt h in
      let peers = then_told (refuse_if (nat_lt MOST_PEERS (length f.settings)) (TooLarge limit.Peers))
      (λ _. of_entries) tt first.1 in
      let entries = then_told (entry_limit (entries_of_files s.held.facts f)) (λ _. of_publishers) tt peers.1 in
      let records = then_told
      (refuse_if (nat_lt MOST_PUBLISHERS (records_total f.publishers)) (TooLarge limit.Publishers))
      (λ _. of_policies) tt entries.1 in
      let policies = then_told (refuse_if (nat_lt MOST_POLICIES (length f.policies)) (TooLarge limit.Policies))
      (λ _. of_number) tt records.1 in
      let step = then_told (step_limit s) (λ _. number_limit s (new_of_files s.held.facts f)) tt policies.1 in
      record {
        criteria = first.0;
        peers = ltb-false MOST_PEERS (length f.settings) (not_refused _ (TooLarge limit.Peers) peers.0);
        entries = ltb-false MOST_ENTRIES (entries_of_files s.held.facts f)
            (not_refused _ (TooLarge limit.Entries) entries.0);
        records = ltb-false MOST_PUBLISHERS (records_total f.publishers)
            (not_refused _ (TooLarge limit.Publishers) records.0);
        policies = ltb-false MOST_POLICIES (length f.policies) (not_refused _ (TooLarge limit.Policies) policies.0);
        step = step.0;
        number = ltb-false (LAST_NUMBER + 1) (s.next_entry + new_of_files s.held.facts f)
            (not_refused _ (TooLarge limit.Number) step.1);
      }

-- publisher records of files are in order and within the limit
pub files_records : (f : FilesValue) → IsFiles f → records_total f.publishers ≤ MOST_PUBLISHERS → ArePublishers
    f.publishers
files_records f is few = record { by_name = is.publishers_by_name; in_order = is.in_order; few = few }

-- ---- names

-- what is implied, and what own entries, policies and the targets of maps name, the files define
pub record FilesKnow (f : FilesValue) : Type 0 where
  pub implied : least_undefined (map.contains_key (defined f.criteria)) f.criteria ≡ None
  pub own : All (λ (e : Entry). least_unknown (defined f.criteria) e.criteria ≡ None) f.entries
  pub policies : All (λ (k : KeyedPolicy). least_unknown (defined f.criteria) (names_in k.policy) ≡ None) f.policies
  pub targets : All (λ (p : PeerSettings). least_unknown (defined f.criteria) (targets p.map) ≡ None) f.settings

pub files_know : (f : FilesValue) → files_references f ≡ Ok tt → FilesKnow f
files_know f h =
    let has = map.contains_key (defined f.criteria) in
    let none = all_known (unknown_of_files has f)
    (then_told (known (unknown_of_files has f)) (λ _. refuse_if (not (each_is_set f)) UnknownPeer) tt h).0 in
    let implied = least_undefined has f.criteria in
    let own = unknown_of_entries has implied f.entries in
    let all = none_left has (λ (p : PeerSettings). targets p.map) (unknown_of_policies has own f.policies) f.settings
    none in
    let policies = none_left has (λ (k : KeyedPolicy). names_in k.policy) own f.policies all.0 in
    let entries = none_left has (λ (e : Entry). e.criteria) implied f.entries policies.0 in
    record { implied = entries.0; own = entries.1; policies = policies.1; targets = all.1 }

-- what is kept names only criteria that the files define: reviews that aren't closed, and exemptions with a last day
pub what_stays : (s : State) (day : DayValue) (f : FilesValue) → rules s day (ReplaceFiles f) ≡ Ok tt
    → (are_open_beyond (defined f.criteria) s.desk.reviews ≡ false)
    × (list_any (is_dated_beyond (defined f.criteria)) s.held.facts.entries ≡ false)
what_stays s day f h =
    or_parts (are_open_beyond (defined f.criteria) s.desk.reviews)
    (list_any (is_dated_beyond (defined f.criteria)) s.held.facts.entries)
    (not_refused (names_beyond s (defined f.criteria)) CriterionInUse h)

-- the criteria of files that know what they name have a table
pub files_table : (f : FilesValue) → IsFiles f → counted (defined f.criteria) ≡ Ok tt → FilesKnow f → table_told
    f.criteria ≡ Ok (defined f.criteria)
files_table f is few know = table_of f.criteria (few_counted (defined f.criteria) few) know.implied is.further

targets_stay : (t : Criteria) (peers : List HeldPeer) (contents : List ImportedPeer) (k : ℕ) (ps : List PeerSettings)
    → All (λ (p : PeerSettings). least_unknown t (targets p.map) ≡ None) ps → All (HasKnownTargets t)
    (peers_after k peers contents ps)
targets_stay t peers contents k [] h = All-nil (HasKnownTargets t)
targets_stay t peers contents k (p ∷ ps) h =
    let IsKnown : PeerSettings → Type 0 = λ p. least_unknown t (targets p.map) ≡ None in
    let next = k + new_of_peer peers contents p in
    All-cons (HasKnownTargets t) (peer_after k peers contents p) (peers_after next peers contents ps)
    (All-head IsKnown p ps h)
    (targets_stay t peers contents next ps (All-tail IsKnown p ps h))

-- what is named is known after
pub files_known : (f : FilesValue) → FilesKnow f → (next : ℕ) (facts : Facts)
    → list_any (is_dated_beyond (defined f.criteria)) facts.entries ≡ false → AreKnown (facts_of_files next f facts)
files_known f know next facts none = record {
  own = All-weaker IsTaken (HasKnownCriteria t) taken_known (entries_after is_dated Own next facts.entries f.entries)
      (entries_are_taken is_dated Own next facts.entries f.entries);
  targets = targets_stay t facts.peers f.contents _ f.settings know.targets;
}
  where
    t : Criteria
    t = defined f.criteria

    IsTaken : HeldEntry → Type 0
    IsTaken h = (IsIn h facts.entries × (is_dated h ≡ true))
        ⊎ (IsIn h.entry (as_of Own f.entries) × (h.entry.source ≡ Own))

    taken_known : (h : HeldEntry) → IsTaken h → HasKnownCriteria t h
    taken_known h (inl stays) = dated_known t facts.entries none h stays.0 stays.1
    taken_known h (inr given) =
        let e = in_map (of_source Own) f.entries h.entry given.0 in
        ap (λ (x : Entry). least_unknown t x.criteria) e.1.1
        ∙ in_all (λ (e : Entry). least_unknown t e.criteria ≡ None) f.entries know.own e.0 e.1.0

-- and so is what policies name
pub files_policies_known : (f : FilesValue) → FilesKnow f → PoliciesAreKnown (defined f.criteria) f.policies
files_policies_known f know =
    let t = defined f.criteria in
    let IsKnown : KeyedPolicy → Type 0 = λ k. PolicyIsKnown t k.policy in
    All-weaker (λ (k : KeyedPolicy). least_unknown t (names_in k.policy) ≡ None) IsKnown
    (λ k none. All-head IsKnown k [] (known_with t [] (All-nil IsKnown) k none)) f.policies know.policies
