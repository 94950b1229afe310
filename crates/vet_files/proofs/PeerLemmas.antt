-- What the walk of a peer's file gives: criteria that may stand there, not too many, and entries that may.
use Rattle.std.proofs.Common.{◌≡◌, ◌≤◌, ◌<◌, ℕ, true, false, List, [], ◌∷◌, ◌++◌, length, refl, IfOk, arith}
use Rattle.std.proofs.Common.{length-append, ltb-true}
use Rattle.std.specs.Prelude.{Ok, Err, Option, Some, None, codes, nat_lt, if◌then◌else◌}
use Rattle.std.specs.List.{All}
use Rattle.std.specs.Option.{option_to_list}
use Rattle.std.proofs.lemmas.Bool.{cond_both}
use Rattle.std.proofs.lemmas.List.Elements.{All-nil, All-cons, All-append}
use Rattle.std.proofs.lemmas.Result.{IfOk-at_ok}
use Rattle.toml.specs.Data.{Data, boolean, Members, as_array, as_table, get_member}
use Rattle.vet_base.specs.CriteriaChanges.{is_built_in}
use Rattle.vet_base.specs.Gives.{found_or, ◌>>=◌}
use Rattle.vet_base.specs.Name.{is_name, is_package_name}
use Rattle.vet_base.specs.declared.criterion.Criterion.{Criterion}
use Rattle.vet_base.specs.declared.limits.TheConstants.{MOST_PEER_CRITERIA}
use Rattle.vet_entries.specs.Distinct.{distinct}
use Rattle.vet_entries.specs.DistinctLaws.{distinct-All}
use Rattle.vet_entries.specs.PeerContent.{is_peer_entry, is_peer_kind, may_import}
use Rattle.vet_entries.specs.declared.entry.Entry.{Entry}
use Rattle.vet_entries.specs.declared.kind.Audit.{Audit}
use Rattle.vet_files.specs.declared.audits_file.AuditsContent.{AuditsContent}
use Rattle.vet_files.specs.declared.found.Found.{Found}
use Rattle.vet_files.specs.declared.read.subject.Subject.{Subject}
use Rattle.vet_files.specs.declared.read.subject.Subject.TheVariants as subject
use Rattle.vet_files.specs.declared.read.subject.SubjectKey.{SubjectKey}
use Rattle.vet_files.specs.declared.read.whose.Whose.TheVariants.{Peers}
use Rattle.vet_files.specs.Audits.{audit_kind, audit_of, audit_told, audits_file_told, built_in_criterion, criteria_of}
use Rattle.vet_files.specs.Audits.{criterion_told, entries_of, further_criterion, first_key, has, is_no, is_withheld}
use Rattle.vet_files.specs.Audits.{next_criterion, next_package, or_none, room_for_criterion, subject_told}
use Rattle.vet_files.specs.Audits.{trusted_told, wildcard_of, wildcard_told, window_told}
use Rattle.vet_files.specs.Field.{a_flag, a_text, fault, names, optional, required, texts, told_if_some}
use Rattle.vet_files.specs.Lists.{Reading, next_table, nothing, path_below, path_in_list, skipped, table_at}
use Rattle.vet_files.specs.Lists.{tables_of_package}
use Rattle.vet_files.specs.Walk.{each_item, each_member}
use Rattle.vet_files.proofs.Walks.{bind-gives, bind-keeps, each_item-keeps, each_member-keeps}

-- ---- criteria

abbrev pub IsFurther : Criterion → Type 0
IsFurther c = is_built_in c.name ≡ false

-- none is named as a built-in one, and there are not too many
abbrev AreFew : Found (List Criterion) → Type 0
AreFew found = All IsFurther found.content × (length found.content ≤ MOST_PEER_CRITERIA)

-- at most one, and none named as a built-in one
abbrev pub IsOneFurther : Found (Option Criterion) → Type 0
IsOneFurther more = All IsFurther (option_to_list more.content) × (length (option_to_list more.content) ≤ 1)

-- a criterion's table gives one of the table's name
pub criterion_told-one : (name path : List ℕ) (ms : Members) → is_built_in name ≡ false
    → IfOk (criterion_told name path ms) IsOneFurther
criterion_told-one name path ms own =
    bind-gives IsOneFurther (optional a_text path (codes "description") ms) _ (λ description.
    bind-gives IsOneFurther (optional a_text path (codes "description-url") ms) _ (λ url.
    bind-gives IsOneFurther (optional names path (codes "implies") ms) _
    (λ implies. (All-cons IsFurther _ [] own (All-nil IsFurther), omega arith))))

-- a further one has its room
room-is : (defined : ℕ) → IfOk (room_for_criterion Peers defined) (λ _. defined < MOST_PEER_CRITERIA)
room-is defined =
    cond_both (nat_lt defined MOST_PEER_CRITERIA) _ _ (λ r. IfOk r (λ _. defined < MOST_PEER_CRITERIA))
    (λ e. ltb-true defined MOST_PEER_CRITERIA e) (λ e. tt)

further_criterion-keeps : (path name : List ℕ) (found : Found (List Criterion)) (table : Option Members)
    → is_built_in name ≡ false → AreFew found
    → IfOk (further_criterion Peers path name found table) AreFew
further_criterion-keeps path name found table own few =
    bind-keeps (λ _. length found.content < MOST_PEER_CRITERIA) AreFew (room_for_criterion Peers (length found.content))
    _ (room-is (length found.content)) (λ _ room.
    bind-keeps IsOneFurther AreFew (found_or (fault path name) table >>= criterion_told name (path_below path name)) _
    (bind-gives IsOneFurther (found_or (fault path name) table) (criterion_told name (path_below path name))
    (λ ms. criterion_told-one name (path_below path name) ms own))
    (λ more one. let last = option_to_list more.content in (
      All-append IsFurther found.content last few.0 one.0,
      omega (arith, length-append found.content last, few.1, one.1, room),
    )))

next_criterion-keeps : (path : List ℕ) (found : Found (List Criterion)) (name : List ℕ) (d : Data) → AreFew found
    → IfOk (next_criterion Peers path found name d) AreFew
next_criterion-keeps path found name d few =
    let passed = built_in_criterion path name found (as_table d) in
    let further = further_criterion Peers path name found (as_table d) in
    cond_both (is_name name) (if is_built_in name then passed else further) (Err (fault path name)) (λ r. IfOk r AreFew)
    (λ _. cond_both (is_built_in name) passed further (λ r. IfOk r AreFew)
    (λ _. bind-gives AreFew (found_or (fault path name) (as_table d)) _ (λ _. few))
    (λ own. further_criterion-keeps path name found (as_table d) own few))
    (λ _. tt)

criteria_of-few : (path prefix : List ℕ) (ms : Members) → IfOk (criteria_of Peers path prefix ms) AreFew
criteria_of-few path prefix ms =
    let step = next_criterion Peers (prefix ++ codes "criteria") in
    bind-gives AreFew (table_at path (codes "criteria") ms) (each_member step nothing)
    (λ table. each_member-keeps AreFew step (next_criterion-keeps (prefix ++ codes "criteria")) nothing table
    (All-nil IsFurther, omega arith))

-- ---- entries

abbrev IsGiven : Entry → Type 0
IsGiven e = is_peer_entry e ≡ true

abbrev AreGiven : Found (List Entry) → Type 0
AreGiven found = All IsGiven found.content

abbrev IfGiven : Found (Option Entry) → Type 0
IfGiven more = All IsGiven (option_to_list more.content)

-- each entry that is read this way is one that a peer's file gives
abbrev GivesPeerEntries : Reading Entry → Type 0
GivesPeerEntries read = (name path : List ℕ) (ms : Members) → IfOk (read name path ms) IfGiven

one-given : (e : Entry) → IsGiven e → All IsGiven (e ∷ [])
one-given e h = All-cons IsGiven e [] h (All-nil IsGiven)

-- an audit may be imported where its flag is none or true
audit_kind-given : (what : Subject) (audit : Audit) → may_import audit.importable ≡ true
    → is_peer_kind (audit_kind what audit) ≡ true
audit_kind-given (subject.Full version) audit may = may
audit_kind-given (subject.Delta delta) audit may = may
audit_kind-given (subject.Violation req) audit may = may

flag-read : (path key : List ℕ) (flag : Option Data) → is_no flag ≡ false
    → IfOk (told_if_some (a_flag path key) flag) (λ importable. may_import importable ≡ true)
flag-read path key None may = refl
flag-read path key (Some (boolean true)) may = refl
flag-read path key (Some (boolean false)) may = cc may
flag-read path key (Some d) may = tt

audit_of-given : (name path : List ℕ) (ms : Members) (key : Option SubjectKey)
    → is_no (get_member (codes "importable") ms) ≡ false
    → IfOk (audit_of name path ms key) IfGiven
audit_of-given name path ms None may = All-nil IsGiven
audit_of-given name path ms (Some key) may =
    bind-gives IfGiven (required names path (codes "criteria") ms) _ (λ criteria.
    bind-gives IfGiven (subject_told path ms key) _ (λ what.
    bind-gives IfGiven (optional texts path (codes "who") ms) _ (λ who.
    bind-gives IfGiven (optional a_text path (codes "notes") ms) _ (λ notes.
    bind-keeps (λ importable. may_import importable ≡ true) IfGiven (optional a_flag path (codes "importable") ms) _
    (flag-read path (codes "importable") (get_member (codes "importable") ms) may)
    (λ importable held. one-given _
    (audit_kind-given what (record { who = or_none who; importable = importable }) held))))))

audits-given : GivesPeerEntries (audit_told Peers)
audits-given name path ms =
    cond_both (is_withheld Peers ms) (Ok skipped) (audit_of name path ms (first_key ms)) (λ r. IfOk r IfGiven)
    (λ _. All-nil IsGiven) (λ may. audit_of-given name path ms (first_key ms) may)

wildcards-given : GivesPeerEntries wildcard_told
wildcards-given name path ms =
    cond_both (has ms (codes "user-id")) (wildcard_of name path ms) (Ok skipped) (λ r. IfOk r IfGiven) (λ _.
    bind-gives IfGiven (required names path (codes "criteria") ms) _ (λ criteria.
    bind-gives IfGiven (window_told path ms) _ (λ window.
    bind-gives IfGiven (optional texts path (codes "who") ms) _ (λ who.
    bind-gives IfGiven (optional a_flag path (codes "renew") ms) _ (λ renew.
    bind-gives IfGiven (optional a_text path (codes "notes") ms) _ (λ notes. one-given _ refl))))))
    (λ _. All-nil IsGiven)

-- whom a peer trusts is skipped
trusted-given : GivesPeerEntries (trusted_told Peers)
trusted-given name path ms = All-nil IsGiven

-- ---- the entries of all packages

next_table-keeps : (read : Reading Entry) → GivesPeerEntries read
    → (path name : List ℕ) (found : Found (List Entry)) (place : ℕ) (d : Data) → AreGiven found
    → IfOk (next_table read path name found place d) AreGiven
next_table-keeps read gives path name found place d held =
    let below = path_in_list path name place in
    bind-keeps IfGiven AreGiven (found_or (fault path name) (as_table d) >>= read name below) _
    (bind-gives IfGiven (found_or (fault path name) (as_table d)) (read name below) (gives name below))
    (λ more given. All-append IsGiven found.content (option_to_list more.content) held given)

tables_of_package-given : (read : Reading Entry) → GivesPeerEntries read → (path name : List ℕ) (d : Data)
    → IfOk (tables_of_package read path name d) AreGiven
tables_of_package-given read gives path name d =
    let step = next_table read path name in
    cond_both (is_package_name name) (found_or (fault path name) (as_array d) >>= each_item step nothing 0)
    (Err (fault path name)) (λ r. IfOk r AreGiven)
    (λ _. bind-gives AreGiven (found_or (fault path name) (as_array d)) (each_item step nothing 0)
    (λ ds. each_item-keeps AreGiven step (next_table-keeps read gives path name) nothing 0 ds (All-nil IsGiven)))
    (λ _. tt)

next_package-keeps : (read : Reading Entry) → GivesPeerEntries read
    → (path : List ℕ) (found : Found (List Entry)) (name : List ℕ) (d : Data) → AreGiven found
    → IfOk (next_package read path found name d) AreGiven
next_package-keeps read gives path found name d held =
    bind-keeps AreGiven AreGiven (tables_of_package read path name d) _ (tables_of_package-given read gives path name d)
    (λ more given. All-append IsGiven found.content (distinct more.content) held
    (distinct-All IsGiven more.content given))

entries_of-given : (read : Reading Entry) → GivesPeerEntries read → (path prefix key : List ℕ) (ms : Members)
    → IfOk (entries_of read path prefix key ms) AreGiven
entries_of-given read gives path prefix key ms =
    let step = next_package read (prefix ++ key) in
    bind-gives AreGiven (table_at path key ms) (each_member step nothing)
    (λ table. each_member-keeps AreGiven step (next_package-keeps read gives (prefix ++ key)) nothing table
    (All-nil IsGiven))

-- ---- the file

-- what holds of each criterion and of each entry, and how many criteria there are
abbrev HasPeerItems : Found AuditsContent → Type 0
HasPeerItems found = (All IsFurther found.content.criteria × (length found.content.criteria ≤ MOST_PEER_CRITERIA))
    × All IsGiven found.content.entries

audits_file-peer : (path prefix : List ℕ) (ms : Members) → IfOk (audits_file_told Peers path prefix ms) HasPeerItems
audits_file-peer path prefix ms =
    bind-keeps AreFew HasPeerItems (criteria_of Peers path prefix ms) _ (criteria_of-few path prefix ms)
    (λ criteria few.
    bind-keeps AreGiven HasPeerItems (entries_of (audit_told Peers) path prefix (codes "audits") ms) _
    (entries_of-given (audit_told Peers) audits-given path prefix (codes "audits") ms) (λ audits audits_given.
    bind-keeps AreGiven HasPeerItems (entries_of wildcard_told path prefix (codes "wildcard-audits") ms) _
    (entries_of-given wildcard_told wildcards-given path prefix (codes "wildcard-audits") ms)
    (λ wildcards wildcards_given.
    bind-keeps AreGiven HasPeerItems (entries_of (trusted_told Peers) path prefix (codes "trusted") ms) _
    (entries_of-given (trusted_told Peers) trusted-given path prefix (codes "trusted") ms) (λ trusted trusted_given. (
      few,
      All-append IsGiven (audits.content ++ wildcards.content) trusted.content
          (All-append IsGiven audits.content wildcards.content audits_given wildcards_given) trusted_given,
    )))))

pub peer_items : (path prefix : List ℕ) (ms : Members) (found : Found AuditsContent)
    → audits_file_told Peers path prefix ms ≡ Ok found
    → HasPeerItems found
peer_items path prefix ms found told = IfOk-at_ok HasPeerItems told (audits_file-peer path prefix ms)
