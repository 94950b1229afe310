-- What is written of a peer's settings and of a policy is read again as them.
use Rattle.std.proofs.Common.{◌≡◌, ◌==◌, ℕ, false, List, [], ◌∷◌, length, Option, Some, None, Ok, codes, map}
use Rattle.std.proofs.Common.{option_map, refl, sym, ap, ◌∙◌, arith}
use Rattle.std.specs.Cmp.Lexicographic.{slice_cmp}
use Rattle.std.specs.FinMap as finite
use Rattle.std.specs.FinSet as set
use Rattle.std.specs.Option.{IfSome}
use Rattle.std.specs.Ordering.{nat_cmp}
use Rattle.toml.specs.Data.{Data, boolean, string, table}
use Rattle.vet_base.specs.Names.{NameSet, members}
use Rattle.vet_demand.specs.declared.dependency_criteria.DependencyItem.{DependencyItem}
use Rattle.vet_demand.specs.declared.policy.Policy.{Policy}
use Rattle.vet_entries.specs.CriteriaMap.{NamesByName}
use Rattle.vet_entries.specs.declared.peer_settings.PeerSettings.{PeerSettings}
use Rattle.vet_files.specs.declared.keys.TableKind.TheVariants as kind
use Rattle.vet_files.specs.Audits.{or_none}
use Rattle.vet_files.specs.Config.{peer_told, policy_told}
use Rattle.vet_files.specs.ConfigTable.{dependencies_table, mapped_table, peer_fields, peer_table, policy_fields}
use Rattle.vet_files.specs.ConfigTable.{policy_table}
use Rattle.vet_files.specs.Field.{a_flag, a_text, names, package_names, texts}
use Rattle.vet_files.specs.Lists.{found_one}
use Rattle.vet_files.specs.Maps.{criteria_map, dependency_criteria, or_no_dependencies, or_no_map}
use Rattle.vet_files.specs.Notices.{no_notices}
use Rattle.vet_files.specs.ReadAgain.{IsReadAs}
use Rattle.vet_files.specs.Tables.{list_data, members_from, set_data, some_list, unless_empty, unless_none}
use Rattle.vet_files.proofs.Fields.{get_field, none_unknown}
use Rattle.vet_files.proofs.PutSets.{no_members_of}
use Rattle.vet_files.proofs.KeysRead.{none_is_empty, optional_read, required_read}

-- ---- what is left out

-- an empty set is left out, and another one is not
pub empty_set_out : (s : NameSet) (d : Data) → s ≡ set.empty → None ≡ unless_none (members s) d
empty_set_out s d none = ap (λ ns. unless_none ns d) (sym (no_members_of s none))

pub other_set_in : (s : NameSet) (d : Data) → (s ≡ set.empty → ⊥) → Some d ≡ unless_none (members s) d
other_set_in s d some = by (members s) refl
  where
    by : (ns : List (List ℕ)) → members s ≡ ns → Some d ≡ unless_none ns d
    by [] none = absurd (some (none_is_empty s none))
    by (n ∷ rest) is = refl

no_length : {X : Type 0} (xs : List X) → length xs ≡ 0 → xs ≡ []
no_length [] e = refl
no_length (x ∷ xs) e = absurd (omega (arith, e))

-- a map in which nothing stands is the empty one
no_entries : (m : NamesByName) → m ≡ finite.empty → finite.entries m ≡ []
no_entries m none = no_length (finite.entries m)
    (sym (finite.len-entries m) ∙ ap finite.len none ∙ finite.len-empty (slice_cmp nat_cmp) NameSet)

none_mapped : (m : NamesByName) → finite.entries m ≡ [] → m ≡ finite.empty
none_mapped m none = finite.empty_of_len m (finite.len-entries m ∙ ap length none)

-- an empty map is left out, and another one is not
pub empty_map_out : (m : NamesByName) → m ≡ finite.empty → None ≡ unless_empty (mapped_table m)
empty_map_out m none = ap (λ es. unless_empty (members_from (map (λ e. (e.0, set_data e.1)) es)))
    (sym (no_entries m none))

pub other_map_in : (m : NamesByName) → (m ≡ finite.empty → ⊥)
    → Some (table (mapped_table m)) ≡ unless_empty (mapped_table m)
other_map_in m some = by (finite.entries m) refl
  where
    by : (es : List (List ℕ × NameSet)) → finite.entries m ≡ es
        → Some (table (members_from (map (λ e. (e.0, set_data e.1)) es)))
        ≡ unless_empty (members_from (map (λ e. (e.0, set_data e.1)) es))
    by [] none = absurd (some (none_mapped m none))
    by (e ∷ rest) is = refl

-- where there are edges, they are written
pub edges_in : (items : List DependencyItem) → (length items == 0) ≡ false → Some (table (dependencies_table items))
    ≡ unless_empty (dependencies_table items)
edges_in [] some = cc some
edges_in (i ∷ rest) some = refl

-- ---- a peer's settings

pub peer_read : (p : PeerSettings) (mapped : Option NamesByName) (exclude : Option NameSet)
    → option_map (λ m. table (mapped_table m)) mapped ≡ unless_empty (mapped_table p.map) → or_no_map mapped ≡ p.map
    → option_map list_data exclude ≡ some_list p.exclude → or_none exclude ≡ p.exclude
    → IfSome mapped (λ m. IsReadAs criteria_map (table (mapped_table m)) m)
    → IfSome exclude (λ s. IsReadAs package_names (list_data s) s)
    → IsReadAs texts (set_data p.url) p.url → (path : List ℕ) → peer_told p.name path (peer_table p) ≡ Ok
    (found_one p 0)
peer_read p mapped exclude map_written map_is exclude_written exclude_is map_read exclude_read url_read path =
    let fs = peer_fields p in
    let ms = peer_table p in
    let urls = required_read texts set_data path (codes "url") ms p.url (get_field (codes "url") fs) url_read in
    let excluded = optional_read package_names list_data path (codes "exclude") ms exclude
    (get_field (codes "exclude") fs ∙ sym exclude_written) exclude_read in
    let maps = optional_read criteria_map (λ m. table (mapped_table m)) path (codes "criteria-map") ms mapped
    (get_field (codes "criteria-map") fs ∙ sym map_written) map_read in
    rw (urls, excluded, maps, none_unknown kind.Peer fs refl, exclude_is, map_is) refl

-- ---- a policy

pub policy_read : (p : Policy) (dependencies : Option (List DependencyItem))
    → option_map (λ d. table (dependencies_table d)) dependencies
    ≡ unless_empty (dependencies_table p.dependency_criteria)
    → or_no_dependencies dependencies ≡ p.dependency_criteria
    → IfSome p.audit_as_crates_io (λ b. IsReadAs a_flag (boolean b) b)
    → IfSome p.criteria (λ s. IsReadAs names (set_data s) s)
    → IfSome dependencies (λ d. IsReadAs dependency_criteria (table (dependencies_table d)) d)
    → IfSome p.dev_criteria (λ s. IsReadAs names (set_data s) s) → IfSome p.notes (λ x. IsReadAs a_text (string x) x)
    → (path : List ℕ) → policy_told path (policy_table p) ≡ Ok (record { content = p; notices = no_notices })
policy_read p dependencies written is flag_read criteria_read dependencies_read dev_read notes_read path =
    let fs = policy_fields p in
    let ms = policy_table p in
    let flags = optional_read a_flag boolean path (codes "audit-as-crates-io") ms p.audit_as_crates_io
    (get_field (codes "audit-as-crates-io") fs) flag_read in
    let criteria = optional_read names set_data path (codes "criteria") ms p.criteria (get_field (codes "criteria") fs)
    criteria_read in
    let devs = optional_read names set_data path (codes "dev-criteria") ms p.dev_criteria
    (get_field (codes "dev-criteria") fs) dev_read in
    let edges = optional_read dependency_criteria (λ d. table (dependencies_table d)) path (codes "dependency-criteria")
    ms dependencies
    (get_field (codes "dependency-criteria") fs ∙ sym written) dependencies_read in
    let notes = optional_read a_text string path (codes "notes") ms p.notes (get_field (codes "notes") fs) notes_read in
    rw (flags, criteria, devs, edges, notes, none_unknown kind.Policy fs refl, is) refl
