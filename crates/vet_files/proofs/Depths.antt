-- How deep the tables of files nest: far less than `toml` reads.
use Rattle.std.proofs.Common.{ℕ, suc, ◌≤◌, Bool, List, [], ◌∷◌, Option, Some, None, Less, Equal, Greater, nat_cmp, map}
use Rattle.std.proofs.Common.{arith}
use Rattle.std.specs.Cmp.Lexicographic.{slice_cmp}
use Rattle.std.specs.FinMap as finite
use Rattle.std.specs.FinMap.{put}
use Rattle.std.specs.FinMap.Entries.{by_order}
use Rattle.std.specs.FinSet as set
use Rattle.std.specs.Option.{option_map}
use Rattle.toml.specs.Data.{Data, string, array, table, Members, no_members, member, depth, items_depth, members_depth}
use Rattle.toml.specs.View.{items_of}
use Rattle.vet_base.specs.Names.{NameSet, members}
use Rattle.vet_base.specs.declared.criterion.Criterion.{Criterion}
use Rattle.vet_demand.specs.PolicyKey.{key_text}
use Rattle.vet_demand.specs.declared.dependency_criteria.DependencyItem.{DependencyItem}
use Rattle.vet_demand.specs.declared.policies.KeyedPolicy.{KeyedPolicy}
use Rattle.vet_demand.specs.declared.policy.Policy.{Policy}
use Rattle.vet_entries.specs.CriteriaMap.{NamesByName}
use Rattle.vet_entries.specs.declared.entry.Entry.{Entry}
use Rattle.vet_entries.specs.declared.kind.Kind.{Kind}
use Rattle.vet_entries.specs.declared.kind.Kind.TheVariants.{Full, Delta, Violation, Wildcard, Trusted, Exemption}
use Rattle.vet_entries.specs.declared.peer_settings.PeerSettings.{PeerSettings}
use Rattle.vet_entries.specs.declared.publisher.Publisher.{Publisher}
use Rattle.vet_entries.specs.declared.publisher_records.PackagePublishers.{PackagePublishers}
use Rattle.vet_files.specs.declared.audits_file.AuditsContent.{AuditsContent}
use Rattle.vet_files.specs.declared.config_file.ConfigContent.{ConfigContent}
use Rattle.vet_files.specs.declared.imports_file.ImportedPeer.{ImportedPeer}
use Rattle.vet_files.specs.declared.imports_file.ImportsContent.{ImportsContent}
use Rattle.vet_files.specs.declared.write.sections.Listing.TheVariants as listing
use Rattle.vet_files.specs.AuditsTable.{audits_file_fields, audits_file_table, audits_table, criteria_table}
use Rattle.vet_files.specs.AuditsTable.{criterion_fields, criterion_table}
use Rattle.vet_files.specs.ConfigTable.{cargo_vet_table, config_fields, config_table, dependencies_table}
use Rattle.vet_files.specs.ConfigTable.{exemptions_table, mapped_table, optional_set, peer_fields, peer_table}
use Rattle.vet_files.specs.ConfigTable.{peers_table, policies_table, policy_fields, policy_table}
use Rattle.vet_files.specs.EntryTables.{entry_fields, entry_items, entry_table, listed_entries, of_package}
use Rattle.vet_files.specs.EntryTables.{package_lists, some_flag, some_text}
use Rattle.vet_files.specs.ImportsTable.{excluded_of, imported_peers_table, imported_peer_table, imports_fields}
use Rattle.vet_files.specs.ImportsTable.{imports_table, publisher_fields, publisher_items, publisher_table}
use Rattle.vet_files.specs.ImportsTable.{publishers_table}
use Rattle.vet_files.specs.Tables.{by_name, fields, list_data, members_from, one_or_list, put_all, set_data, some_set}
use Rattle.vet_files.specs.Tables.{text_items, unless_empty, unless_none}

-- ---- tables of known keys, and tables by name

abbrev pub option_depth : Option Data → ℕ
option_depth None = 0
option_depth (Some d) = depth d

abbrev pub FieldsWithin : ℕ → List (List ℕ × Option Data) → Type 0
FieldsWithin n [] = Unit {0}
FieldsWithin n (f ∷ rest) = (option_depth f.1 ≤ n) × FieldsWithin n rest

fields_within : (n : ℕ) (fs : List (List ℕ × Option Data)) → FieldsWithin n fs → members_depth (fields fs) ≤ n
fields_within n [] h = omega arith
fields_within n ((k, None) ∷ rest) h = fields_within n rest h.1
fields_within n ((k, Some d) ∷ rest) h = omega (arith, h.0, fields_within n rest h.1)

abbrev pub PairsWithin : ℕ → List (List ℕ × Data) → Type 0
PairsWithin n [] = Unit {0}
PairsWithin n (p ∷ rest) = (depth p.1 ≤ n) × PairsWithin n rest

pub members_within : (n : ℕ) (ps : List (List ℕ × Data)) → PairsWithin n ps → members_depth (members_from ps) ≤ n
members_within n [] h = omega arith
members_within n (p ∷ rest) h = omega (arith, h.0, members_within n rest h.1)

put_within : (n : ℕ) (k : List ℕ) (d : Data) (ps : List (List ℕ × Data)) → depth d ≤ n → PairsWithin n ps
    → PairsWithin n (put (slice_cmp nat_cmp) k d ps)
put_within n k d [] here h = (here, tt)
put_within n k d (p ∷ rest) here h =
    elim (slice_cmp nat_cmp k p.0)
    as (λ o. PairsWithin n
    (by_order o ((k, d) ∷ p ∷ rest) ((p.0, d) ∷ rest) (p ∷ put (slice_cmp nat_cmp) k d rest))) [
      | Less ↦ (here, h)
      | Equal ↦ (here, h.1)
      | Greater ↦ (h.0, put_within n k d rest here h.1)
    ]

put_all_within : (n : ℕ) (found ps : List (List ℕ × Data)) → PairsWithin n found → PairsWithin n ps
    → PairsWithin n (put_all found ps)
put_all_within n found [] before h = before
put_all_within n found (p ∷ rest) before h = put_all_within n (put (slice_cmp nat_cmp) p.0 p.1 found) rest
    (put_within n p.0 p.1 found h.0 before) h.1

pub by_name_within : (n : ℕ) (ps : List (List ℕ × Data)) → PairsWithin n ps → members_depth (by_name ps) ≤ n
by_name_within n ps h = members_within n (put_all [] ps) (put_all_within n [] ps tt h)

-- pairs made of a list
pub pairs_within : {X : Type 0} (n : ℕ) (name : X → List ℕ) (value : X → Data) → ((x : X) → depth (value x) ≤ n)
    → (xs : List X) → PairsWithin n (map (λ x. (name x, value x)) xs)
pairs_within n name value each [] = tt
pairs_within n name value each (x ∷ xs) = (each x, pairs_within n name value each xs)

pub items_within : {X : Type 0} (n : ℕ) (value : X → Data) → ((x : X) → depth (value x) ≤ n) → (xs : List X)
    → items_depth (items_of (map value xs)) ≤ n
items_within n value each [] = omega arith
items_within n value each (x ∷ xs) = omega (arith, each x, items_within n value each xs)

pub unless_empty_within : (n : ℕ) (ms : Members) → members_depth ms ≤ n → option_depth (unless_empty ms) ≤ suc n
unless_empty_within n no_members h = omega arith
unless_empty_within n (member k d rest) h = omega (arith, h)

-- ---- values

texts_within : (ts : List (List ℕ)) → items_depth (text_items ts) ≤ 0
texts_within ts = items_within 0 string (λ t. omega arith) ts

one_or_list_within : (ts : List (List ℕ)) → depth (one_or_list ts) ≤ 1
one_or_list_within [] = omega arith
one_or_list_within (t ∷ []) = omega arith
one_or_list_within (t ∷ u ∷ ts) = omega (arith, texts_within (t ∷ u ∷ ts))

set_within : (s : NameSet) → depth (set_data s) ≤ 1
set_within s = one_or_list_within (members s)

list_within : (s : NameSet) → depth (list_data s) ≤ 1
list_within s = omega (arith, texts_within (members s))

unless_none_within : (ts : List (List ℕ)) (d : Data) → depth d ≤ 1 → option_depth (unless_none ts d) ≤ 1
unless_none_within [] d h = omega arith
unless_none_within (t ∷ ts) d h = h

some_set_within : (s : NameSet) → option_depth (some_set s) ≤ 1
some_set_within s = unless_none_within (members s) (set_data s) (set_within s)

text_within : (o : Option (List ℕ)) → option_depth (some_text o) ≤ 1
text_within None = omega arith
text_within (Some t) = omega arith

flag_within : (o : Option Bool) → option_depth (some_flag o) ≤ 1
flag_within None = omega arith
flag_within (Some b) = omega arith

optional_set_within : (o : Option NameSet) → option_depth (optional_set o) ≤ 1
optional_set_within None = omega arith
optional_set_within (Some s) = set_within s

table_here : (n : ℕ) (ms : Members) → members_depth ms ≤ n → option_depth (Some (table ms)) ≤ suc n
table_here n ms h = omega (arith, h)

more : (n : ℕ) → n ≤ 1 → n ≤ 2
more n h = omega (arith, h)

most : (n : ℕ) → n ≤ 1 → n ≤ 4
most n h = omega (arith, h)

deeper : (n : ℕ) → n ≤ 3 → n ≤ 5
deeper n h = omega (arith, h)

-- ---- audits files

entry_kind_within : (criteria : Data) (notes : Option Data) (kind : Kind) → depth criteria ≤ 1 → option_depth notes ≤ 1
    → members_depth (fields (entry_fields criteria notes kind)) ≤ 1
entry_kind_within c n (Full v a) h k = fields_within 1 (entry_fields c n (Full v a))
    (h, (flag_within a.importable, (k, (omega arith, (some_set_within a.who, tt)))))
entry_kind_within c n (Delta d a) h k = fields_within 1 (entry_fields c n (Delta d a))
    (h, (omega arith, (flag_within a.importable, (k, (some_set_within a.who, tt)))))
entry_kind_within c n (Violation r a) h k = fields_within 1 (entry_fields c n (Violation r a))
    (h, (flag_within a.importable, (k, (omega arith, (some_set_within a.who, tt)))))
entry_kind_within c n (Wildcard w g) h k = fields_within 1 (entry_fields c n (Wildcard w g))
    (h, (omega arith, (k, (flag_within g.renew, (omega arith, (omega arith, (some_set_within g.who, tt)))))))
entry_kind_within c n (Trusted w) h k = fields_within 1 (entry_fields c n (Trusted w))
    (h, (omega arith, (k, (omega arith, (omega arith, tt)))))
entry_kind_within c n (Exemption v s l) h k = fields_within 1 (entry_fields c n (Exemption v s l))
    (h, (k, (flag_within s, (omega arith, tt))))

entry_within : (e : Entry) → members_depth (entry_table e) ≤ 1
entry_within e = entry_kind_within (set_data e.criteria) (some_text e.notes) e.kind (set_within e.criteria)
    (text_within e.notes)

lists_within : (es : List Entry) → members_depth (package_lists es) ≤ 3
lists_within es =
    let items : (xs : List Entry) → items_depth (entry_items xs) ≤ 2 = λ xs. items_within 2 (λ e. table (entry_table e))
    (λ e. omega (arith, entry_within e)) xs in
    by_name_within 3 _ (pairs_within 3 (λ (e : Entry). e.«package»)
    (λ (e : Entry). array (entry_items (of_package e.«package» es)))
    (λ e. omega (arith, items (of_package e.«package» es))) es)

criterion_within : (c : Criterion) → members_depth (criterion_table c) ≤ 1
criterion_within c = fields_within 1 (criterion_fields c)
    (text_within c.description, (text_within c.url, (some_set_within c.implies, tt)))

criteria_within : (cs : List Criterion) → members_depth (criteria_table cs) ≤ 2
criteria_within cs = by_name_within 2 _
    (pairs_within 2 (λ (c : Criterion). c.name) (λ c. table (criterion_table c))
    (λ c. omega (arith, criterion_within c)) cs)

pub audits_file_within : (exclude : NameSet) (criteria : List Criterion) (entries : List Entry)
    → members_depth (audits_file_table exclude criteria entries) ≤ 4
audits_file_within exclude criteria entries =
    let lists : (xs : List Entry) → option_depth (unless_empty (package_lists xs)) ≤ 4 =
    λ xs. unless_empty_within 3 (package_lists xs) (lists_within xs) in
    let defined = unless_empty_within 3 (criteria_table criteria) (omega (arith, criteria_within criteria)) in
    fields_within 4 (audits_file_fields exclude criteria entries) (
      table_here 3 _ (lists_within (listed_entries listing.Audits exclude entries)),
      (
        defined,
        (
          lists (listed_entries listing.Trusted exclude entries),
          (lists (listed_entries listing.WildcardAudits exclude entries), tt),
        ),
      ),
    )

pub audits_depth : (content : AuditsContent) → members_depth (audits_table content) ≤ 80
audits_depth content = omega (arith, audits_file_within set.empty content.criteria content.entries)

-- ---- config files

mapped_within : (m : NamesByName) → members_depth (mapped_table m) ≤ 1
mapped_within m = members_within 1 _
    (pairs_within 1 (λ p. p.0) (λ p. set_data p.1) (λ p. set_within p.1) (finite.entries m))

dependencies_within : (items : List DependencyItem) → members_depth (dependencies_table items) ≤ 1
dependencies_within items =
    members_within 1 _ (pairs_within 1 (λ (i : DependencyItem). i.«package») (λ i. set_data i.criteria)
    (λ i. set_within i.criteria) items)

peer_within : (p : PeerSettings) → members_depth (peer_table p) ≤ 2
peer_within p =
    fields_within 2 (peer_fields p) (
      unless_empty_within 1 (mapped_table p.map) (mapped_within p.map),
      (
        more _ (unless_none_within (members p.exclude) (list_data p.exclude) (list_within p.exclude)),
        (more _ (set_within p.url), tt),
      ),
    )

peers_within : (ps : List PeerSettings) → members_depth (peers_table ps) ≤ 3
peers_within ps = by_name_within 3 _
    (pairs_within 3 (λ (p : PeerSettings). p.name) (λ p. table (peer_table p)) (λ p. omega (arith, peer_within p)) ps)

policy_within : (p : Policy) → members_depth (policy_table p) ≤ 2
policy_within p =
    fields_within 2 (policy_fields p) (
      more _ (flag_within p.audit_as_crates_io),
      (
        more _ (optional_set_within p.criteria),
        (
          unless_empty_within 1 (dependencies_table p.dependency_criteria) (dependencies_within p.dependency_criteria),
          (more _ (optional_set_within p.dev_criteria), (more _ (text_within p.notes), tt)),
        ),
      ),
    )

policies_within : (ps : List KeyedPolicy) → members_depth (policies_table ps) ≤ 3
policies_within ps = by_name_within 3 _
    (pairs_within 3 (λ (p : KeyedPolicy). key_text p.key) (λ p. table (policy_table p.policy))
    (λ p. omega (arith, policy_within p.policy)) ps)

cargo_vet_within : (o : Option (List ℕ)) → option_depth (option_map (λ v. table (cargo_vet_table v)) o) ≤ 4
cargo_vet_within None = omega arith
cargo_vet_within (Some v) = omega arith

pub config_depth : (content : ConfigContent) → members_depth (config_table content) ≤ 80
config_depth content =
    let whole : members_depth (config_table content) ≤ 4 = fields_within 4 (config_fields content) (
      cargo_vet_within content.vet_version,
      (
        most _ (optional_set_within content.default_criteria),
        (
          unless_empty_within 3 (exemptions_table content.exemptions)
              (lists_within (listed_entries listing.Exemptions set.empty content.exemptions)),
          (
            unless_empty_within 3 (peers_table content.peers) (peers_within content.peers),
            (unless_empty_within 3 (policies_table content.policies) (policies_within content.policies), tt),
          ),
        ),
      ),
    ) in
    omega (arith, whole)

-- ---- imports files

publisher_within : (p : Publisher) → members_depth (publisher_table p) ≤ 1
publisher_within p = fields_within 1 (publisher_fields p)
    (omega arith, (text_within p.login, (text_within p.name, (omega arith, (omega arith, tt)))))

publishers_within : (ps : List PackagePublishers) → members_depth (publishers_table ps) ≤ 3
publishers_within ps =
    let items : (xs : List Publisher)
    → items_depth (publisher_items xs) ≤ 2 = λ xs. items_within 2 (λ p. table (publisher_table p))
    (λ p. omega (arith, publisher_within p)) xs in
    by_name_within 3 _ (pairs_within 3 (λ (p : PackagePublishers). p.«package»)
    (λ p. array (publisher_items p.publishers)) (λ p. omega (arith, items p.publishers)) ps)

imported_within : (settings : List PeerSettings) (ps : List ImportedPeer)
    → members_depth (imported_peers_table settings ps) ≤ 5
imported_within settings ps =
    by_name_within 5 _ (pairs_within 5 (λ (p : ImportedPeer). p.name) (λ p. table (imported_peer_table settings p))
    (λ p. omega (arith, audits_file_within (excluded_of settings p.name) p.content.criteria p.content.entries)) ps)

pub imports_depth : (settings : List PeerSettings) (content : ImportsContent)
    → members_depth (imports_table settings content) ≤ 80
imports_depth settings content =
    let whole : members_depth (imports_table settings content) ≤ 6 = fields_within 6 (imports_fields settings content) (
      table_here 5 _ (imported_within settings content.peers),
      (
        unless_empty_within 5 (publishers_table content.publishers) (deeper _ (publishers_within content.publishers)),
        tt,
      ),
    ) in
    omega (arith, whole)
