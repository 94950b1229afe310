-- The table of an audits file is read again as what it was written of.
use Rattle.std.proofs.Common.{◌≡◌, ◌⊎◌, ◌+◌, ◌≤◌, ◌&&◌, not, ℕ, Bool, true, false, List, [], ◌∷◌, ◌++◌, length, map}
use Rattle.std.proofs.Common.{codes, refl, sym, ap, ◌∙◌, subst, inl, inr, append_assoc, append-nil, length-append}
use Rattle.std.proofs.Common.{lt-ltb, arith}
use Rattle.std.specs.Prelude.{Ok, Some}
use Rattle.std.specs.FinSet as set
use Rattle.std.specs.List.{All}
use Rattle.std.proofs.lemmas.Bool.{and_from, and_parts, false≢true}
use Rattle.std.proofs.lemmas.List.Elements.{All-head, All-tail}
use Rattle.toml.specs.Data.{table, Members}
use Rattle.vet_base.specs.CriteriaChanges.{is_built_in}
use Rattle.vet_base.specs.Gives.{◌>>=◌}
use Rattle.vet_base.specs.Items.{IsIn, SameItems}
use Rattle.vet_base.specs.Names.{NameSet}
use Rattle.vet_base.specs.declared.criterion.Criterion.{Criterion}
use Rattle.vet_base.specs.declared.limits.TheConstants.{MOST_PEER_CRITERIA}
use Rattle.vet_entries.specs.PeerContent.{is_own}
use Rattle.vet_entries.specs.declared.entry.Entry.{Entry}
use Rattle.vet_entries.specs.declared.kind.Kind.{Kind}
use Rattle.vet_entries.specs.declared.kind.Kind.TheVariants.{Full, Delta, Violation, Wildcard, Exemption}
use Rattle.vet_entries.specs.declared.kind.Kind.TheVariants as kinds
use Rattle.vet_files.specs.Audits.{audit_told, audits_content, audits_file_told, criteria_of, entries_of}
use Rattle.vet_files.specs.Audits.{next_criterion, next_package, room_for_criterion, trusted_told, wildcard_told}
use Rattle.vet_files.specs.AuditsTable.{audits_file_table, criteria_table, criterion_table}
use Rattle.vet_files.specs.Config.{exemption_told}
use Rattle.vet_files.specs.EntryTables.{entry_table, is_listed, listed_entries, package_lists}
use Rattle.vet_files.specs.Keys.{unknown_keys}
use Rattle.vet_files.specs.Lists.{Reading, nothing, found_one, found_with, table_at, table_of}
use Rattle.vet_files.specs.Notices.{no_notices, only_keys}
use Rattle.vet_files.specs.ReadAgain.{ReadsCriterion, ReadsEntry, is_taken, reading_of}
use Rattle.vet_files.specs.SameContent.{AreFew, CanStand, is_entry_of, is_kind_of, taken}
use Rattle.vet_files.specs.Tables.{members_from, unless_empty}
use Rattle.vet_files.specs.Walk.{each_member}
use Rattle.vet_files.specs.declared.audits_file.AuditsContent.{AuditsContent}
use Rattle.vet_files.specs.declared.keys.TableKind.TheVariants as kind
use Rattle.vet_files.specs.declared.write.sections.Listing.{Listing}
use Rattle.vet_files.specs.declared.write.sections.Listing.TheVariants.{Audits, Exemptions, Trusted, WildcardAudits}
use Rattle.vet_files.specs.declared.read.whose.Whose.{Whose}
use Rattle.vet_files.specs.declared.read.whose.Whose.TheVariants.{Ours, Peers}
use Rattle.vet_files.proofs.Fields.{Fields, get_field, none_unknown}
use Rattle.vet_files.proofs.NamedOnce.{All-IsIn, All-each_IsIn, IsIn-either, IsIn-filter, IsIn-left, IsIn-of_filter}
use Rattle.vet_files.proofs.NamedOnce.{IsIn-right, by_name-sorted, sorted, sorted-All, sorted-SameItems, sorted-length}
use Rattle.vet_files.proofs.PackagesRead.{IsReadBy, all_of, distinct-filter, package_lists_read, unless_empty-read}

-- ---- criteria

abbrev IsFurther : Criterion → Type 0
IsFurther c = is_built_in c.name ≡ false

-- these may follow those
abbrev HasRoom : Whose → List Criterion → List Criterion → Type 0
HasRoom Ours found cs = Unit {0}
HasRoom Peers found cs = length found + length cs ≤ MOST_PEER_CRITERIA

room_for : (whose : Whose) (found : List Criterion) (c : Criterion) (cs : List Criterion) → HasRoom whose found (c ∷ cs)
    → room_for_criterion whose (length found) ≡ Ok tt
room_for Ours found c cs h = refl
room_for Peers found c cs h = rw (lt-ltb (length found) MOST_PEER_CRITERIA (omega (arith, h))) refl

room_later : (whose : Whose) (found : List Criterion) (c : Criterion) (cs : List Criterion)
    → HasRoom whose found (c ∷ cs) → HasRoom whose (found ++ c ∷ []) cs
room_later Ours found c cs h = tt
room_later Peers found c cs h = omega (arith, h, length-append found (c ∷ []))

room_at_first : (whose : Whose) (criteria cs : List Criterion) → length cs ≤ length criteria → AreFew whose criteria
    → HasRoom whose [] cs
room_at_first Ours criteria cs most few = tt
room_at_first Peers criteria cs most few = omega (arith, most, few)

criterion_read : (whose : Whose) (path : List ℕ) (found : List Criterion) (c : Criterion) (cs : List Criterion)
    → ReadsCriterion c → IsFurther c → HasRoom whose found (c ∷ cs)
    → next_criterion whose path (all_of found) c.name (table (criterion_table c)) ≡ Ok (all_of (found ++ c ∷ []))
criterion_read whose path found c cs reads further room =
    rw (reads.named, further, room_for whose found c cs room, reads.read _) refl

abbrev criteria_members : List Criterion → Members
criteria_members cs = members_from (map (λ c. (c.name, table (criterion_table c))) cs)

criteria_read : (whose : Whose) (path : List ℕ) (found cs : List Criterion) → All ReadsCriterion cs → All IsFurther cs
    → HasRoom whose found cs
    → each_member (next_criterion whose path) (all_of found) (criteria_members cs) ≡ Ok (all_of (found ++ cs))
criteria_read whose path found [] reads further room = ap (λ (all : List Criterion). Ok (all_of all))
    (sym (append-nil found))
criteria_read whose path found (c ∷ cs) reads further room =
    rw (criterion_read whose path found c cs (All-head ReadsCriterion c cs reads) (All-head IsFurther c cs further)
    room)
    (criteria_read whose path (found ++ c ∷ []) cs (All-tail ReadsCriterion c cs reads)
    (All-tail IsFurther c cs further) (room_later whose found c cs room)
    ∙ ap (λ (all : List Criterion). Ok (all_of all)) (append_assoc found (c ∷ []) cs))

-- ---- which entries stand in which table

-- how the entries of each table of lists are read
abbrev reading_by : Whose → Listing → Reading Entry
reading_by whose Audits = audit_told whose
reading_by whose WildcardAudits = wildcard_told
reading_by whose Trusted = trusted_told whose
reading_by whose Exemptions = exemption_told

read_there : (whose : Whose) (which : Listing) (k : Kind) → is_listed which k ≡ true
    → reading_of whose k ≡ reading_by whose which
read_there whose Audits (Full v a) h = refl
read_there whose Audits (Delta d a) h = refl
read_there whose Audits (Violation r a) h = refl
read_there whose WildcardAudits (Wildcard w g) h = refl
read_there whose Trusted (kinds.Trusted w) h = refl
read_there whose Exemptions (Exemption v s l) h = refl
read_there whose which k h = absurd (false≢true h)

is_kind-taken : (whose : Whose) (k : Kind) → is_kind_of whose k ≡ true → is_taken whose k ≡ true
is_kind-taken Ours (Full v a) h = refl
is_kind-taken Ours (Delta d a) h = refl
is_kind-taken Ours (Violation r a) h = refl
is_kind-taken Ours (Wildcard w g) h = refl
is_kind-taken Ours (kinds.Trusted w) h = refl
is_kind-taken Ours (Exemption v s l) h = absurd (false≢true h)
is_kind-taken Peers k h = h

-- each kind stands in one of the three tables
stands : (whose : Whose) (k : Kind) → is_kind_of whose k ≡ true
    → (is_listed Audits k ≡ true) ⊎ ((is_listed WildcardAudits k ≡ true) ⊎ (is_listed Trusted k ≡ true))
stands whose (Full v a) h = inl refl
stands whose (Delta d a) h = inl refl
stands whose (Violation r a) h = inl refl
stands whose (Wildcard w g) h = inr (inl refl)
stands whose (kinds.Trusted w) h = inr (inr refl)
stands Ours (Exemption v s l) h = absurd (false≢true h)
stands Peers (Exemption v s l) h = absurd (false≢true h)

-- ---- what stands at the keys

module _ (whose : Whose) (path prefix : List ℕ) (exclude : NameSet) (criteria : List Criterion) (entries : List Entry)
    (can : CanStand whose criteria entries) where
  abbrev listed : Listing → List Entry
  listed which = listed_entries which exclude entries

  abbrev file_fields : Fields
  file_fields =
      (codes "audits", Some (table (package_lists (listed Audits)))) ∷
      (codes "criteria", unless_empty (criteria_table criteria))
      ∷ (codes "trusted", unless_empty (package_lists (listed Trusted))) ∷
      (codes "wildcard-audits", unless_empty (package_lists (listed WildcardAudits))) ∷ []

  abbrev file : Members
  file = audits_file_table exclude criteria entries

  -- ---- its criteria

  abbrev in_order : List Criterion
  in_order = sorted (λ (c : Criterion). c.name) criteria

  criteria_of-read : All ReadsCriterion criteria → criteria_of whose path prefix file ≡ Ok (all_of in_order)
  criteria_of-read reads =
      let step = next_criterion whose (prefix ++ codes "criteria") in
      let name : Criterion → List ℕ = λ c. c.name in
      let at_key : table_at path (codes "criteria") file ≡ Ok (criteria_members in_order) =
      ap (table_of path (codes "criteria")) (get_field (codes "criteria") file_fields)
      ∙ unless_empty-read path (codes "criteria") (criteria_table criteria)
      ∙ ap Ok (by_name-sorted name (λ c. table (criterion_table c)) criteria) in
      (λ i. at_key i >>= each_member step nothing)
      ∙ criteria_read whose (prefix ++ codes "criteria") [] in_order (sorted-All name ReadsCriterion criteria reads)
      (sorted-All name IsFurther criteria can.further)
      (room_at_first whose criteria in_order (sorted-length name criteria) can.few)

  -- ---- its entries

  abbrev is_there : Listing → Entry → Bool
  is_there which e = is_listed which e.kind && not (set.contains exclude e.«package»)

  listed-read : (which : Listing) → All ReadsEntry (listed which)
      → All (IsReadBy (reading_by whose which)) (listed which)
  listed-read which reads = All-each_IsIn (IsReadBy (reading_by whose which)) (listed which) each
    where
      each : (e : Entry) → IsIn e (listed which) → IsReadBy (reading_by whose which) e
      each e among =
          let (held, passes) = IsIn-of_filter (is_there which) e entries among in
          let (there, kept) = and_parts (is_listed which e.kind) (not (set.contains exclude e.«package»)) passes in
          let (own, of_kind) = and_parts (is_own e.source) (is_kind_of whose e.kind)
          (All-IsIn (λ x. is_entry_of whose x ≡ true) e entries can.kinds held) in
          let again : ReadsEntry e = All-IsIn ReadsEntry e (listed which) reads among in (
            again.named,
            λ path. subst (λ (read : Reading Entry). read e.«package» path (entry_table e) ≡ Ok (found_one e 0))
                (read_there whose which e.kind there)
                (again.read whose own (is_kind-taken whose e.kind of_kind) path),
          )

  -- the entries of one of its tables
  abbrev AreFound : Listing → List ℕ → Type 0
  AreFound which key = (found : List Entry)
      × ((entries_of (reading_by whose which) path prefix key file ≡ Ok (all_of found))
      × SameItems (listed which) found)

  entries_of-read : (which : Listing) (key : List ℕ) → table_at path key file ≡ Ok (package_lists (listed which))
      → All ReadsEntry (listed which) → AreFound which key
  entries_of-read which key at_key reads =
      let read = reading_by whose which in
      let (found, (told, same)) = package_lists_read read (prefix ++ key) (listed which)
      (distinct-filter (is_there which) entries can.once) (listed-read which reads) in
      (found, ((λ i. at_key i >>= each_member (next_package read (prefix ++ key)) nothing) ∙ told, same))

  audits_found : All ReadsEntry (listed Audits) → AreFound Audits (codes "audits")
  audits_found = entries_of-read Audits (codes "audits")
      (ap (table_of path (codes "audits")) (get_field (codes "audits") file_fields))

  wildcards_found : All ReadsEntry (listed WildcardAudits) → AreFound WildcardAudits (codes "wildcard-audits")
  wildcards_found =
      let key = codes "wildcard-audits" in
      entries_of-read WildcardAudits key (ap (table_of path key) (get_field key file_fields)
      ∙ unless_empty-read path key (package_lists (listed WildcardAudits)))

  trusted_found : All ReadsEntry (listed Trusted) → AreFound Trusted (codes "trusted")
  trusted_found =
      let key = codes "trusted" in
      entries_of-read Trusted key (ap (table_of path key) (get_field key file_fields)
      ∙ unless_empty-read path key (package_lists (listed Trusted)))

  -- ---- the entries of all three tables

  module _ (audits wildcards trusted : List Entry) (of_audits : SameItems (listed Audits) audits)
      (of_wildcards : SameItems (listed WildcardAudits) wildcards) (of_trusted : SameItems (listed Trusted) trusted)
    where
      abbrev whole : List Entry
      whole = (audits ++ wildcards) ++ trusted

      abbrev is_kept : Entry → Bool
      is_kept e = not (set.contains exclude e.«package»)

      to_whole : (e : Entry) → IsIn e (taken exclude entries) → IsIn e whole
      to_whole e among =
          let (held, kept) = IsIn-of_filter is_kept e entries among in
          let of = and_parts (is_own e.source) (is_kind_of whose e.kind)
          (All-IsIn (λ x. is_entry_of whose x ≡ true) e entries can.kinds held) in
          let there : (which : Listing) → is_listed which e.kind ≡ true → IsIn e (listed which) =
          λ which h. IsIn-filter (is_there which) e entries held
          (and_from (is_listed which e.kind) (is_kept e) h kept) in
          elim (stands whose e.kind of.1) [
            | inl h ↦ IsIn-left e (audits ++ wildcards) trusted
                (IsIn-left e audits wildcards (of_audits.0 e (there Audits h)))
            | inr (inl h) ↦ IsIn-left e (audits ++ wildcards) trusted
                (IsIn-right e audits wildcards (of_wildcards.0 e (there WildcardAudits h)))
            | inr (inr h) ↦ IsIn-right e (audits ++ wildcards) trusted (of_trusted.0 e (there Trusted h))
          ]

      from_listed : (which : Listing) (e : Entry) → IsIn e (listed which) → IsIn e (taken exclude entries)
      from_listed which e among =
          let (held, passes) = IsIn-of_filter (is_there which) e entries among in
          IsIn-filter is_kept e entries held (and_parts (is_listed which e.kind) (is_kept e) passes).1

      from_whole : (e : Entry) → IsIn e whole → IsIn e (taken exclude entries)
      from_whole e among = elim (IsIn-either e (audits ++ wildcards) trusted among) [
        | inl first ↦ elim (IsIn-either e audits wildcards first) [
          | inl h ↦ from_listed Audits e (of_audits.1 e h)
          | inr h ↦ from_listed WildcardAudits e (of_wildcards.1 e h)
        ]
        | inr h ↦ from_listed Trusted e (of_trusted.1 e h)
      ]

      same_entries : SameItems (taken exclude entries) whole
      same_entries = (to_whole, from_whole)

  -- ---- the file

  pub audits_read_back : All ReadsCriterion criteria → All ReadsEntry (listed Audits)
      → All ReadsEntry (listed WildcardAudits) → All ReadsEntry (listed Trusted)
      → (found : AuditsContent)
      × ((audits_file_told whose path prefix file ≡ Ok (record { content = found; notices = no_notices }))
      × (SameItems criteria found.criteria × SameItems (taken exclude entries) found.entries))
  audits_read_back reads of_audits of_wildcards of_trusted =
      let told = criteria_of-read reads in
      let (audits, (told_audits, same_audits)) = audits_found of_audits in
      let (wildcards, (told_wildcards, same_wildcards)) = wildcards_found of_wildcards in
      let (trusted, (told_trusted, same_trusted)) = trusted_found of_trusted in
      let unknown : unknown_keys kind.AuditsFile file ≡ 0 = none_unknown kind.AuditsFile file_fields refl in (
        record { criteria = in_order; entries = (audits ++ wildcards) ++ trusted },
        (
          (λ i. told i >>= λ cs. told_audits i >>= λ first. told_wildcards i >>= λ second. told_trusted i >>= λ third.
              Ok (audits_content cs (found_with (found_with first second) third) (only_keys (unknown i)))),
          (
            sorted-SameItems (λ (c : Criterion). c.name) criteria can.named_once,
            same_entries audits wildcards trusted
                same_audits same_wildcards same_trusted,
          ),
        ),
      )
