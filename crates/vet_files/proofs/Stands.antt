-- What an audits file gives can be written again.
use Rattle.std.proofs.Common.{◌≡◌, ◌&&◌, not, Bool, ℕ, true, false, List, [], ◌++◌, refl, sym, ap, ◌∙◌, IfOk}
use Rattle.std.proofs.Common.{append-nil}
use Rattle.std.specs.Prelude.{Ok, Err, Option, codes, if◌then◌else◌, length}
use Rattle.std.specs.List.{All}
use Rattle.std.specs.Option.{option_to_list}
use Rattle.std.specs.declared.result.Result.{Result}
use Rattle.std.proofs.lemmas.Bool.{cond_both, false≢true}
use Rattle.std.proofs.lemmas.List.Elements.{All-append, All-cons, All-nil, All-weaker}
use Rattle.std.proofs.lemmas.Result.{IfOk-at_ok}
use Rattle.toml.specs.Data.{Data, Members, as_table}
use Rattle.vet_base.specs.CriteriaChanges.{is_built_in}
use Rattle.vet_base.specs.Day.{DayValue}
use Rattle.vet_base.specs.Gives.{Gives, Told, found_or}
use Rattle.vet_base.specs.Name.{is_name}
use Rattle.vet_base.specs.Version.{VersionValue}
use Rattle.vet_base.specs.declared.criterion.Criterion.{Criterion}
use Rattle.vet_base.specs.declared.refusal.Refusal.{Refusal}
use Rattle.vet_entries.specs.Kind.{is_exemption}
use Rattle.vet_entries.specs.PeerContent.{PeerContentValue, is_own}
use Rattle.vet_entries.specs.declared.entry.Entry.{Entry}
use Rattle.vet_entries.specs.declared.kind.Kind.{Kind}
use Rattle.vet_entries.specs.declared.kind.Kind.TheVariants.{Full, Delta, Violation, Wildcard, Trusted, Exemption}
use Rattle.vet_files.specs.declared.audits_file.AuditsContent.{AuditsContent}
use Rattle.vet_files.specs.declared.found.Found.{Found}
use Rattle.vet_files.specs.declared.write.sections.Listing.{Listing}
use Rattle.vet_files.specs.declared.write.sections.Listing.TheVariants as listing
use Rattle.vet_files.specs.declared.read.whose.Whose.{Whose}
use Rattle.vet_files.specs.declared.read.whose.Whose.TheVariants.{Ours, Peers}
use Rattle.vet_files.specs.Audits.{audit_told, audits_file_told, built_in_criterion, criteria_of, criterion_at}
use Rattle.vet_files.specs.Audits.{criterion_told, entries_of, further_criterion, next_criterion, or_none}
use Rattle.vet_files.specs.Audits.{room_for_criterion, trusted_told, wildcard_told}
use Rattle.vet_files.specs.EntryTables.{is_listed}
use Rattle.vet_files.specs.Imports.{peer_file_told}
use Rattle.vet_files.specs.Field.{a_text, fault, names, optional}
use Rattle.vet_files.specs.Lists.{RisesAt, nothing, path_below, table_at}
use Rattle.vet_files.specs.SameContent.{CanStand, is_entry_of}
use Rattle.vet_files.specs.Walk.{KeysRise, each_member}
use Rattle.vet_files.proofs.Apart.{Appends, AreApart, HasOther, Holds, IsOther, apart-append, apart-pairs, other-name}
use Rattle.vet_files.proofs.Apart.{walk-keys}
use Rattle.vet_files.proofs.FurtherCriteria.{further-answered}
use Rattle.vet_files.proofs.Once.{distinct-apart}
use Rattle.vet_files.proofs.PackageEntries.{IsOf, StandOnce, audits-listed, entries-once, trusted-listed}
use Rattle.vet_files.proofs.PackageEntries.{wildcards-listed}
use Rattle.vet_files.proofs.PeerLemmas.{peer_items}
use Rattle.vet_files.proofs.Rising.{Rising}
use Rattle.vet_files.proofs.RisingTables.{rising-at}
use Rattle.vet_files.proofs.Walks.{bind-gives, bind-keeps}

-- ---- criteria

abbrev name_of : Criterion → List ℕ
name_of c = c.name

abbrev Any : Criterion → Type 0
Any c = Unit {0}

abbrev NamedAs : List ℕ → Found (Option Criterion) → Type 0
NamedAs name more = All (λ c. name_of c ≡ name) (option_to_list more.content)
    × AreApart (HasOther name_of) (option_to_list more.content)

abbrev AppendsCriteria : Found (List Criterion) → List ℕ → Found (List Criterion) → Type 0
AppendsCriteria = Appends name_of (HasOther name_of) Any

criterion-named : (name path : List ℕ) (ms : Members) → IfOk (criterion_told name path ms) (NamedAs name)
criterion-named name path ms =
    bind-gives (NamedAs name) (optional a_text path (codes "description") ms) _ (λ description.
    bind-gives (NamedAs name) (optional a_text path (codes "description-url") ms) _ (λ url.
    bind-gives (NamedAs name) (optional names path (codes "implies") ms) _ (λ implies.
    let found : Criterion = record { name = name; description = description; url = url; implies = or_none implies } in (
      All-cons (λ c. name_of c ≡ name) found [] refl (All-nil (λ c. name_of c ≡ name)),
      (All-nil (HasOther name_of found), tt),
    ))))

further-appends : (whose : Whose) (path name : List ℕ) (found : Found (List Criterion)) (table : Option Members)
    → IfOk (further_criterion whose path name found table) (AppendsCriteria found name)
further-appends whose path name found table =
    bind-gives (AppendsCriteria found name) (room_for_criterion whose (length found.content)) _ (λ _.
    bind-keeps (NamedAs name) (AppendsCriteria found name) (criterion_at path name table) _
    (bind-gives (NamedAs name) (found_or (fault path name) table) (criterion_told name (path_below path name))
    (λ ms. criterion-named name (path_below path name) ms))
    (λ more named. (option_to_list more.content, (refl, (named.0, (named.1, λ k d l. tt))))))

built_in-appends : (path name : List ℕ) (found : Found (List Criterion)) (table : Option Members)
    → IfOk (built_in_criterion path name found table) (AppendsCriteria found name)
built_in-appends path name found table =
    bind-gives (AppendsCriteria found name) (found_or (fault path name) table) _
    (λ _. ([], (sym (append-nil found.content), (All-nil (λ c. name_of c ≡ name), (tt, All-nil Any)))))

next_criterion-appends : (whose : Whose) (path : List ℕ) (found : Found (List Criterion)) (name : List ℕ) (d : Data)
    → IfOk (next_criterion whose path found name d) (AppendsCriteria found name)
next_criterion-appends whose path found name d =
    let passed = built_in_criterion path name found (as_table d) in
    let further = further_criterion whose path name found (as_table d) in
    cond_both (is_name name) (if is_built_in name then passed else further) (Err (fault path name))
    (λ r. IfOk r (AppendsCriteria found name))
    (λ _. cond_both (is_built_in name) passed further (λ r. IfOk r (AppendsCriteria found name))
    (λ _. built_in-appends path name found (as_table d)) (λ _. further-appends whose path name found (as_table d)))
    (λ _. tt)

abbrev NamedApart : Found (List Criterion) → Type 0
NamedApart = Holds (HasOther name_of) Any

criteria-named : (whose : Whose) (path prefix : List ℕ) (ms : Members) → RisesAt path (codes "criteria") ms
    → IfOk (criteria_of whose path prefix ms) NamedApart
criteria-named whose path prefix ms rise =
    let step = next_criterion whose (prefix ++ codes "criteria") in
    bind-keeps KeysRise NamedApart (table_at path (codes "criteria") ms) (each_member step nothing) rise
    (λ inner inner_rise. walk-keys name_of (HasOther name_of) Any (other-name name_of) step
    (λ found name d. next_criterion-appends whose (prefix ++ codes "criteria") found name d) inner inner_rise)

-- ---- entries of different tables

abbrev NotInBoth : Listing → Listing → Kind → Type 0
NotInBoth first second k = is_listed first k ≡ true → is_listed second k ≡ true → ⊥

-- no kind stands in two of the tables
apart-kinds : (first second : Listing) → ((k : Kind) → NotInBoth first second k)
    → (xs ys : List Entry) → All (IsOf first) xs → All (IsOf second) ys
    → All (λ x. All (IsOther x) ys) xs
apart-kinds first second none xs ys in_first in_second =
    All-weaker (IsOf first) (λ x. All (IsOther x) ys)
    (λ x hx. All-weaker (IsOf second) (IsOther x)
    (λ y hy same. none x.kind hx.1 (ap (λ (e : Entry). is_listed second e.kind) same ∙ hy.1)) ys in_second) xs
    in_first

in_one : (k : Kind) → NotInBoth listing.Audits listing.WildcardAudits k × NotInBoth listing.Audits listing.Trusted k
    × NotInBoth listing.WildcardAudits listing.Trusted k
in_one (Full v a) = (λ h g. cc g, λ h g. cc g, λ h g. cc h)
in_one (Delta d a) = (λ h g. cc g, λ h g. cc g, λ h g. cc h)
in_one (Violation r a) = (λ h g. cc g, λ h g. cc g, λ h g. cc h)
in_one (Wildcard w g) = (λ h g. cc h, λ h g. cc h, λ h g. cc g)
in_one (Trusted w) = (λ h g. cc h, λ h g. cc h, λ h g. cc h)
in_one (Exemption v s l) = (λ h g. cc h, λ h g. cc h, λ h g. cc h)

-- an own entry that is no exemption
abbrev IsGiven : Entry → Type 0
IsGiven e = is_entry_of Ours e ≡ true

pub both : (a b : Bool) → a ≡ true → b ≡ true → (a && b) ≡ true
both true true h g = refl
both true false h g = g
both false b h g = h

listed-given : (l : Listing)
    → ((v : VersionValue) (s : Option Bool) (last : Option DayValue) → is_listed l (Exemption v s last) ≡ false)
    → (e : Entry) → IsOf l e → IsGiven e
listed-given l none e h =
    both (is_own e.source) (not (is_exemption e.kind)) h.0 (other e.kind h.1)
  where
    other : (k : Kind) → is_listed l k ≡ true → not (is_exemption k) ≡ true
    other (Full v a) g = refl
    other (Delta d a) g = refl
    other (Violation r a) g = refl
    other (Wildcard w a) g = refl
    other (Trusted w) g = refl
    other (Exemption v s last) g = absurd (false≢true (sym (none v s last) ∙ g))

-- ---- the file

-- the entries of the three tables
abbrev AreEntries : List Entry → Type 0
AreEntries es = AreApart IsOther es × All IsGiven es

three-tables : (audits wildcards trusted : Found (List Entry)) → StandOnce listing.Audits audits
    → StandOnce listing.WildcardAudits wildcards → StandOnce listing.Trusted trusted
    → AreEntries ((audits.content ++ wildcards.content) ++ trusted.content)
three-tables audits wildcards trusted a w t =
    let both_apart = apart-append IsOther audits.content wildcards.content a.0 w.0
    (apart-kinds listing.Audits listing.WildcardAudits (λ k. (in_one k).0) audits.content wildcards.content a.1 w.1) in
    let across = All-append (λ x. All (IsOther x) trusted.content) audits.content wildcards.content
    (apart-kinds listing.Audits listing.Trusted (λ k. (in_one k).1) audits.content trusted.content a.1 t.1)
    (apart-kinds listing.WildcardAudits listing.Trusted (λ k. (in_one k).2) wildcards.content trusted.content w.1
    t.1) in (
      apart-append IsOther (audits.content ++ wildcards.content) trusted.content both_apart t.0 across,
      All-append IsGiven (audits.content ++ wildcards.content) trusted.content
          (All-append IsGiven audits.content wildcards.content
          (All-weaker (IsOf listing.Audits) IsGiven (listed-given listing.Audits (λ v s l. refl)) audits.content a.1)
          (All-weaker (IsOf listing.WildcardAudits) IsGiven (listed-given listing.WildcardAudits (λ v s l. refl))
          wildcards.content w.1))
          (All-weaker (IsOf listing.Trusted) IsGiven (listed-given listing.Trusted (λ v s l. refl)) trusted.content
          t.1),
    )

abbrev AreApartAll : Found AuditsContent → Type 0
AreApartAll found = AreApart (HasOther name_of) found.content.criteria × AreEntries found.content.entries

-- the keys rise in each table that holds criteria or entries
abbrev TablesRise : List ℕ → Members → Type 0
TablesRise path ms =
    RisesAt path (codes "criteria") ms
    × (RisesAt path (codes "audits") ms
    × (RisesAt path (codes "wildcard-audits") ms × RisesAt path (codes "trusted") ms))

file-apart : (whose : Whose) (path prefix : List ℕ) (ms : Members) → TablesRise path ms
    → IfOk (audits_file_told whose path prefix ms) AreApartAll
file-apart whose path prefix ms rise =
    bind-keeps NamedApart AreApartAll (criteria_of whose path prefix ms) _ (criteria-named whose path prefix ms rise.0)
    (λ criteria named.
    bind-keeps (StandOnce listing.Audits) AreApartAll (entries_of (audit_told whose) path prefix (codes "audits") ms) _
    (entries-once listing.Audits (audit_told whose) (audits-listed whose) path prefix (codes "audits") ms rise.1.0)
    (λ audits audits_once.
    bind-keeps (StandOnce listing.WildcardAudits) AreApartAll
    (entries_of wildcard_told path prefix (codes "wildcard-audits") ms) _
    (entries-once listing.WildcardAudits wildcard_told wildcards-listed path prefix (codes "wildcard-audits") ms
    rise.1.1.0) (λ wildcards wildcards_once.
    bind-keeps (StandOnce listing.Trusted) AreApartAll
    (entries_of (trusted_told whose) path prefix (codes "trusted") ms) _
    (entries-once listing.Trusted (trusted_told whose) (trusted-listed whose) path prefix (codes "trusted") ms
    rise.1.1.1) (λ trusted trusted_once.
    (named.0, three-tables audits wildcards trusted audits_once wildcards_once trusted_once)))))

-- what a file's table holds can be written again
stands : (whose : Whose) (path prefix : List ℕ) (ms : Members) (found : Found AuditsContent) → TablesRise path ms
    → audits_file_told whose path prefix ms ≡ Ok found
    → CanStand whose found.content.criteria found.content.entries
stands Ours path prefix ms found rise told =
    let apart = IfOk-at_ok AreApartAll told (file-apart Ours path prefix ms rise) in
    record {
      further = further-answered Ours path prefix ms (Ok found) told;
      named_once = apart-pairs (HasOther name_of) found.content.criteria apart.0;
      few = tt;
      kinds = apart.1.1;
      once = distinct-apart found.content.entries apart.1.0;
    }
stands Peers path prefix ms found rise told =
    let apart = IfOk-at_ok AreApartAll told (file-apart Peers path prefix ms rise) in
    let items = peer_items path prefix ms found told in
    record {
      further = items.0.0;
      named_once = apart-pairs (HasOther name_of) found.content.criteria apart.0;
      few = items.0.1;
      kinds = items.1;
      once = distinct-apart found.content.entries apart.1.0;
    }

-- ---- what the readers answer

ok-if : {A : Type 0} (P : A → Type 0) (told : Told A) → ((a : A) → told ≡ Ok a → P a) → IfOk told P
ok-if P (Ok a) h = h a refl
ok-if P (Err refusal) h = tt

pub answered : {A : Type 0} (P : A → Type 0) (told : Told A) (answer : Result A Refusal) → IfOk told P
    → Gives (λ a. a) told answer → IfOk answer P
answered P told (Ok a) h is = IfOk-at_ok P is h
answered P told (Err refusal) h is = tt

abbrev Stands : Whose → Found AuditsContent → Type 0
Stands whose found = CanStand whose found.content.criteria found.content.entries

file-stands : (whose : Whose) (path prefix : List ℕ) (ms : Members) → TablesRise path ms
    → IfOk (audits_file_told whose path prefix ms) (Stands whose)
file-stands whose path prefix ms rise = ok-if (Stands whose) (audits_file_told whose path prefix ms)
    (λ found told. stands whose path prefix ms found rise told)

-- what the reader answers, which finds that the keys rise as it walks
pub file-answered : (whose : Whose) (path prefix : List ℕ) (ms : Members)
    (answer : Result (Found AuditsContent) Refusal) → RisesAt path (codes "criteria") ms
    → RisesAt path (codes "audits") ms
    → IfOk answer (λ _. RisesAt path (codes "wildcard-audits") ms × RisesAt path (codes "trusted") ms)
    → Gives (λ a. a) (audits_file_told whose path prefix ms) answer → IfOk answer (Stands whose)
file-answered whose path prefix ms (Ok found) criteria audits others told =
    answered (Stands whose) (audits_file_told whose path prefix ms) (Ok found)
    (file-stands whose path prefix ms (criteria, (audits, others))) told
file-answered whose path prefix ms (Err refusal) criteria audits others told = tt

abbrev pub PeerStands : Found PeerContentValue → Type 0
PeerStands found = CanStand Peers found.content.criteria found.content.entries

pub peer-stands : (path prefix : List ℕ) (ms : Members) → Rising ms → IfOk (peer_file_told path prefix ms) PeerStands
peer-stands path prefix ms rise =
    bind-keeps (Stands Peers) PeerStands (audits_file_told Peers path prefix ms) _
    (file-stands Peers path prefix ms rising) (λ found held. held)
  where
    rising : TablesRise path ms
    rising = (
      rising-at path (codes "criteria") ms rise,
      (
        rising-at path (codes "audits") ms rise,
        (rising-at path (codes "wildcard-audits") ms rise, rising-at path (codes "trusted") ms rise),
      ),
    )
