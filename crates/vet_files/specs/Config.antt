-- The tables of a config file (The Cargo Vet Book, config file; what is counted is ours).
use Rattle.std.specs.Prelude.{Bool, List, [], Option, None, Ok, Err, if◌then◌else◌}
use Rattle.toml.specs.Data.{Data, Members, as_table}
use Rattle.vet_base.specs.Gives.{Told, found_or, ◌>>=◌}
use Rattle.vet_base.specs.Names.{NameSet}
use Rattle.vet_base.specs.Words.{Bytes, Name, Path, Text}
use Rattle.vet_demand.specs.Policies.{has_policy, with_policy}
use Rattle.vet_demand.specs.PolicyKey.{read_key}
use Rattle.vet_demand.specs.declared.policies.KeyedPolicy.{KeyedPolicy}
use Rattle.vet_demand.specs.declared.policy.Policy.{Policy}
use Rattle.vet_demand.specs.declared.policy_key.PolicyKey.{PolicyKey}
use Rattle.vet_entries.specs.declared.entry.Entry.{Entry}
use Rattle.vet_entries.specs.declared.kind.Kind.TheVariants.{Exemption}
use Rattle.vet_entries.specs.declared.peer_settings.PeerSettings.{PeerSettings}
use Rattle.vet_files.specs.Audits.{document_told, entries_of, or_none, own_entry}
use Rattle.vet_files.specs.KeyNames.{AUDIT_AS_CRATES_IO, CARGO_VET, CRITERIA, CRITERIA_MAP, DEFAULT_CRITERIA}
use Rattle.vet_files.specs.KeyNames.{DEPENDENCY_CRITERIA, DEV_CRITERIA, EXCLUDE, EXEMPTIONS, IMPORTS, NOTES, POLICY}
use Rattle.vet_files.specs.KeyNames.{SUGGEST, TOP, URL, VERSION}
use Rattle.vet_files.specs.declared.config_file.ConfigContent.{ConfigContent}
use Rattle.vet_files.specs.declared.found.Found.{Found}
use Rattle.vet_files.specs.declared.keys.TableKind.TheVariants as kind
use Rattle.vet_files.specs.declared.notices.Notices.{Notices}
use Rattle.vet_files.specs.Field.{a_flag, a_text, a_version, fault, names, optional, package_names, required, texts}
use Rattle.vet_files.specs.Keys.{unknown_keys}
use Rattle.vet_files.specs.Lists.{Reading, found_one, named_tables, path_below, table_at}
use Rattle.vet_files.specs.Maps.{criteria_map, dependency_criteria, or_no_dependencies, or_no_map}
use Rattle.vet_files.specs.Notices.{no_notices, only_keys, sum_of_notices}
use Rattle.vet_files.specs.Walk.{each_member}

-- ---- `[cargo-vet]`

-- the version of cargo-vet that the file names
abbrev pub vet_version_told : Members → Told (Found (Option Text))
vet_version_told ms =
    table_at TOP CARGO_VET ms >>= λ table.
    optional a_text CARGO_VET VERSION table >>= λ version.
    Ok (record { content = version; notices = only_keys (unknown_keys kind.CargoVet table) })

-- ---- `imports`

-- the settings of a peer: its urls, the packages for which nothing is taken from it, and its map
abbrev pub peer_told : Name → Path → Members → Told (Found (Option PeerSettings))
peer_told name path ms =
    required texts path URL ms >>= λ url. optional package_names path EXCLUDE ms >>= λ exclude.
    optional criteria_map path CRITERIA_MAP ms >>= λ mapped.
    Ok (found_one (record { name = name; url = url; exclude = or_none exclude; map = or_no_map mapped })
    (unknown_keys kind.Peer ms))

-- the peers, by their names
abbrev pub peers_told : Members → Told (Found (List PeerSettings))
peers_told = named_tables peer_told IMPORTS

-- ---- `policy`

-- the policy of a table with these values about its own package: its criteria of dependencies, and its notes
abbrev pub dependency_policy_told : Path → Members → Option Bool → Option NameSet → Option NameSet
    → Told (Found Policy)
dependency_policy_told path ms published criteria dev =
    optional dependency_criteria path DEPENDENCY_CRITERIA ms >>= λ dependencies.
    optional a_text path NOTES ms >>= λ notes.
    Ok (record {
      content = record {
        audit_as_crates_io = published;
        criteria = criteria;
        dev_criteria = dev;
        dependency_criteria =
            or_no_dependencies dependencies;
        notes = notes;
      };
      notices = only_keys (unknown_keys kind.Policy ms);
    })

-- the policy of a table
abbrev pub policy_told : Path → Members → Told (Found Policy)
policy_told path ms =
    optional a_flag path AUDIT_AS_CRATES_IO ms >>= λ published.
    optional names path CRITERIA ms >>= λ criteria.
    optional names path DEV_CRITERIA ms >>= λ dev. dependency_policy_told path ms published criteria dev

-- the key of one more policy, which must not be that of an earlier one
abbrev pub new_key : Text → List KeyedPolicy → PolicyKey → Told PolicyKey
new_key text held key = if has_policy held key then Err (fault POLICY text) else Ok key

abbrev pub new_key_told : Text → List KeyedPolicy → Told PolicyKey
new_key_told text held = found_or (fault POLICY text) (read_key text) >>= new_key text held

-- the policy whose table is at a key
abbrev pub policy_at : Text → Data → Told (Found Policy)
policy_at text d = found_or (fault POLICY text) (as_table d) >>= policy_told
    (path_below POLICY text)

abbrev pub policy_onto : Found (List KeyedPolicy) → PolicyKey → Found Policy → Found (List KeyedPolicy)
policy_onto found key more =
    record { content = with_policy found.content key more.content; notices = sum_of_notices found.notices more.notices }

abbrev pub next_policy : Found (List KeyedPolicy) → Text → Data → Told (Found (List KeyedPolicy))
next_policy found text d =
    new_key_told text found.content >>= λ key. policy_at text d >>= λ more. Ok (policy_onto found key more)

-- all policies of a table
abbrev pub all_policies_told : Members → Told (Found (List KeyedPolicy))
all_policies_told = each_member next_policy (record { content = []; notices = no_notices })

abbrev pub policies_told : Members → Told (Found (List KeyedPolicy))
policies_told ms = table_at TOP POLICY ms >>= all_policies_told

-- ---- `exemptions`

-- the exemption of a table, which has no last day: `last-day` is an unknown key, and is counted
abbrev pub exemption_told : Reading Entry
exemption_told name path ms =
    required a_version path VERSION ms >>= λ version.
    required names path CRITERIA ms >>= λ criteria.
    optional a_flag path SUGGEST ms >>= λ suggest. optional a_text path NOTES ms >>= λ notes.
    Ok (found_one (own_entry name (Exemption version suggest None) criteria notes) (unknown_keys kind.Exemption ms))

-- ---- the file

-- the lists of a config file, with the rest of its content and the counts of what was ignored there and among its keys
abbrev pub config_lists_told : Option Text → Option NameSet → Notices → Notices → Members
    → Told (Found ConfigContent)
config_lists_told version default settings keys ms =
    peers_told ms >>= λ peers. policies_told ms >>= λ policies.
    entries_of exemption_told TOP [] EXEMPTIONS ms >>= λ exemptions.
    Ok (record {
      content = record {
        vet_version = version;
        default_criteria = default;
        peers = peers.content;
        policies =
            policies.content;
        exemptions = exemptions.content;
      };
      notices = sum_of_notices
          (sum_of_notices (sum_of_notices settings peers.notices) (sum_of_notices policies.notices exemptions.notices))
          keys;
    })

-- the content of a config file's table
abbrev pub config_file_told : Members → Told (Found ConfigContent)
config_file_told ms =
    vet_version_told ms >>= λ version. optional names TOP DEFAULT_CRITERIA ms >>= λ default.
    config_lists_told version.content default version.notices (only_keys (unknown_keys kind.ConfigFile ms)) ms

-- the content of a config file
abbrev pub config_told : Bytes → Told (Found ConfigContent)
config_told bytes = document_told bytes >>= config_file_told
