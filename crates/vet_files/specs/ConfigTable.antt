-- The table of a config file, as a function of its content (The Cargo Vet Book, config file).
use Rattle.std.specs.Prelude.{List, [], ◌∷◌, Option, Some, map, option_map}
use Rattle.std.specs.FinMap as finite
use Rattle.std.specs.FinSet as set
use Rattle.toml.specs.Data.{Data, string, table, Members}
use Rattle.vet_base.specs.Names.{NameSet}
use Rattle.vet_base.specs.Words.{Key, Text}
use Rattle.vet_demand.specs.PolicyKey.{key_text}
use Rattle.vet_demand.specs.declared.dependency_criteria.DependencyItem.{DependencyItem}
use Rattle.vet_demand.specs.declared.policies.KeyedPolicy.{KeyedPolicy}
use Rattle.vet_demand.specs.declared.policy.Policy.{Policy}
use Rattle.vet_entries.specs.CriteriaMap.{NamesByName}
use Rattle.vet_entries.specs.declared.entry.Entry.{Entry}
use Rattle.vet_entries.specs.declared.peer_settings.PeerSettings.{PeerSettings}
use Rattle.vet_files.specs.KeyNames.{AUDIT_AS_CRATES_IO, CARGO_VET, CRITERIA, CRITERIA_MAP, DEFAULT_CRITERIA}
use Rattle.vet_files.specs.KeyNames.{DEPENDENCY_CRITERIA, DEV_CRITERIA, EXCLUDE, EXEMPTIONS, IMPORTS, NOTES, POLICY}
use Rattle.vet_files.specs.KeyNames.{URL, VERSION}
use Rattle.vet_files.specs.declared.config_file.ConfigContent.{ConfigContent}
use Rattle.vet_files.specs.declared.write.sections.Listing.TheVariants.{Exemptions}
use Rattle.vet_files.specs.EntryTables.{listed_entries, package_lists, some_flag, some_text}
use Rattle.vet_files.specs.Tables.{by_name, fields, members_from, set_data, some_list, unless_empty}

-- an optional set: an absent one is left out, and an empty one is an empty list
abbrev pub optional_set : Option NameSet → Option Data
optional_set = option_map set_data

-- ---- `[cargo-vet]`

abbrev pub cargo_vet_table : Text → Members
cargo_vet_table version = fields ((VERSION, Some (string version)) ∷ [])

-- ---- `imports`

-- the map from a peer's criteria, by name
abbrev pub mapped_table : NamesByName → Members
mapped_table mapped = members_from (map (λ m. (m.0, set_data m.1)) (finite.entries mapped))

-- a peer's settings
abbrev pub peer_fields : PeerSettings → List (Key × Option Data)
peer_fields peer =
    (CRITERIA_MAP, unless_empty (mapped_table peer.map)) ∷ (EXCLUDE, some_list peer.exclude) ∷
    (URL, Some (set_data peer.url)) ∷ []

abbrev pub peer_table : PeerSettings → Members
peer_table peer = fields (peer_fields peer)

abbrev pub peers_table : List PeerSettings → Members
peers_table peers = by_name (map (λ p. (p.name, table (peer_table p))) peers)

-- ---- `policy`

-- the criteria along edges to dependencies, by package
abbrev pub dependencies_table : List DependencyItem → Members
dependencies_table items = members_from (map (λ i. (i.«package», set_data i.criteria)) items)

-- a policy
abbrev pub policy_fields : Policy → List (Key × Option Data)
policy_fields p =
    (AUDIT_AS_CRATES_IO, some_flag p.audit_as_crates_io) ∷ (CRITERIA, optional_set p.criteria)
    ∷ (DEPENDENCY_CRITERIA, unless_empty (dependencies_table p.dependency_criteria)) ∷
    (DEV_CRITERIA, optional_set p.dev_criteria)
    ∷ (NOTES, some_text p.notes) ∷ []

abbrev pub policy_table : Policy → Members
policy_table p = fields (policy_fields p)

abbrev pub policies_table : List KeyedPolicy → Members
policies_table policies = by_name (map (λ p. (key_text p.key, table (policy_table p.policy))) policies)

-- ---- the file

-- the exemptions, by package
abbrev pub exemptions_table : List Entry → Members
exemptions_table entries = package_lists (listed_entries Exemptions set.empty entries)

-- the table of a config file
abbrev pub config_fields : ConfigContent → List (Key × Option Data)
config_fields content =
    (CARGO_VET, option_map (λ v. table (cargo_vet_table v)) content.vet_version)
    ∷ (DEFAULT_CRITERIA, optional_set content.default_criteria)
    ∷ (EXEMPTIONS, unless_empty (exemptions_table content.exemptions))
    ∷ (IMPORTS, unless_empty (peers_table content.peers))
    ∷ (POLICY, unless_empty (policies_table content.policies)) ∷ []

abbrev pub config_table : ConfigContent → Members
config_table content = fields (config_fields content)
