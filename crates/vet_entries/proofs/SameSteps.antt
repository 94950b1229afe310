-- A package that is the same in two facts has the same steps, and the same versions of it are condemned.
use Rattle.std.proofs.Common.{◌≡◌, ℕ, Bool, List, [], ◌∷◌, Option, Some, None, map, refl, sym, ap, ◌∙◌}
use Rattle.std.specs.Prelude.{◌&&◌, ◌||◌, option_map}
use Rattle.std.specs.List.{flat_map, list_any}
use Rattle.std.proofs.lemmas.List.Folds.{flat_map-map}
use Rattle.vet_base.specs.Criteria.{Criteria, closure_of, leads_to, placed}
use Rattle.vet_base.specs.CriteriaSet.{Places}
use Rattle.vet_base.specs.Day.{DayValue}
use Rattle.vet_base.specs.Names.{NameSet}
use Rattle.vet_base.specs.Version.{VersionValue}
use Rattle.vet_base.specs.Words.{Name}
use Rattle.vet_entries.specs.declared.held_peer.HeldPeer.{HeldPeer}
use Rattle.vet_entries.specs.declared.publisher.Publisher.{Publisher}
use Rattle.vet_entries.specs.declared.step.Step.{Step}
use Rattle.vet_entries.specs.Condemned.{condemns, is_condemned, violates}
use Rattle.vet_entries.specs.Facts.{Facts}
use Rattle.vet_entries.specs.Mapped.{mapped}
use Rattle.vet_entries.specs.PeerWords.{local_criteria, violated_names}
use Rattle.vet_entries.specs.PublisherRecords.{records_of}
use Rattle.vet_entries.specs.SameOf.{IsSameOf, WordedEntry, Wording, worded, worded_entries, wording_of}
use Rattle.vet_entries.specs.Step.{SourcedEntry, by_number, entries_of, entry_steps, kind_steps, steps_of}
use Rattle.vet_entries.proofs.ByNumber.{map-by_number}

abbrev number_of : SourcedEntry → ℕ
number_of e = e.held.number

abbrev number_in : WordedEntry → ℕ
number_in e = e.held.number

-- ---- the steps of a worded entry

abbrev criteria_in : Criteria → Option Wording → NameSet → Places
criteria_in table None names = placed table (closure_of table names)
criteria_in table (Some w) names = placed table (closure_of table (mapped w.mapping (closure_of w.table names)))

abbrev steps_in : Option DayValue → Criteria → List Publisher → WordedEntry → List Step
steps_in today table records e =
    kind_steps today (criteria_in table e.wording e.held.entry.criteria) records e.held.entry.kind

same_criteria : (table : Criteria) (o : Option HeldPeer) (names : NameSet) → local_criteria table o names
    ≡ criteria_in table (option_map wording_of o) names
same_criteria table None names = refl
same_criteria table (Some peer) names = refl

worded_steps : (today : Option DayValue) (table : Criteria) (records : List Publisher) (e : SourcedEntry)
    → entry_steps today table records e ≡ steps_in today table records (worded e)
worded_steps today table records e = ap (λ c. kind_steps today c records e.held.entry.kind)
    (same_criteria table e.peer e.held.entry.criteria)

-- the steps of a package are those of its worded entries
steps_worded : (facts : Facts) (name : Name) → steps_of facts name
    ≡ flat_map (steps_in facts.today facts.criteria (records_of facts.publishers name))
    (by_number number_in (worded_entries facts name))
steps_worded facts name =
    let today = facts.today in
    let table = facts.criteria in
    let records = records_of facts.publishers name in
    let entries = entries_of facts name in
    ap (λ give. flat_map give (by_number number_of entries)) (λ i e. worded_steps today table records e i)
    ∙ sym (flat_map-map (steps_in today table records) worded (by_number number_of entries))
    ∙ ap (flat_map (steps_in today table records)) (map-by_number worded number_of number_in (λ e. refl) entries)

pub same_steps : (name : Name) (old new : Facts) → IsSameOf name old new → steps_of old name ≡ steps_of new name
same_steps name old new same =
    steps_worded old name
    ∙ (λ i. flat_map (steps_in (same.today i) (same.criteria i) (same.records i))
    (by_number number_in (same.entries i)))
    ∙ sym (steps_worded new name)

-- ---- what a worded entry condemns

abbrev violated_in : Option Wording → NameSet → NameSet
violated_in None names = names
violated_in (Some w) names = mapped w.mapping names

abbrev condemns_in : Criteria → VersionValue → ℕ → WordedEntry → Bool
condemns_in table v c e =
    violates v e.held.entry.kind && leads_to table (placed table (violated_in e.wording e.held.entry.criteria)) c

same_violated : (o : Option HeldPeer) (names : NameSet) → violated_names o names
    ≡ violated_in (option_map wording_of o) names
same_violated None names = refl
same_violated (Some peer) names = refl

worded_condemns : (table : Criteria) (v : VersionValue) (c : ℕ) (e : SourcedEntry)
    → condemns table v c e ≡ condemns_in table v c (worded e)
worded_condemns table v c e = ap (λ names. violates v e.held.entry.kind && leads_to table (placed table names) c)
    (same_violated e.peer e.held.entry.criteria)

any_worded : (table : Criteria) (v : VersionValue) (c : ℕ) (entries : List SourcedEntry)
    → list_any (condemns table v c) entries ≡ list_any (condemns_in table v c) (map worded entries)
any_worded table v c [] = refl
any_worded table v c (e ∷ entries) = λ i. worded_condemns table v c e i || any_worded table v c entries i

pub same_condemned : (name : Name) (old new : Facts) → IsSameOf name old new → (c : ℕ) (v : VersionValue)
    → is_condemned old name c v ≡ is_condemned new name c v
same_condemned name old new same c v =
    any_worded old.criteria v c (entries_of old name)
    ∙ (λ i. list_any (condemns_in (same.criteria i) v c) (same.entries i))
    ∙ sym (any_worded new.criteria v c (entries_of new name))
