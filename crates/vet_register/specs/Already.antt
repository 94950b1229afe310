-- When the thing that a command sets or adds is already held (ours).
use Rattle.std.specs.Prelude.{◌==◌, ◌&&◌, not, Bool, false, List, Some, if◌then◌else◌, filter, length}
use Rattle.std.specs.Cmp.Lexicographic.{pointwise}
use Rattle.std.specs.List.{list_all}
use Rattle.std.specs.Option.{option_eq, option_map_or}
use Rattle.std.specs.FinMap as table
use Rattle.vet_base.specs.Words.{Name}
use Rattle.vet_base.specs.declared.criterion.Criterion.{Criterion}
use Rattle.vet_base.specs.Criteria.{Criteria}
use Rattle.vet_base.specs.CriteriaChanges.{is_built_in}
use Rattle.vet_base.specs.Criterion.{criterion_eq}
use Rattle.vet_demand.specs.declared.policies.KeyedPolicy.{KeyedPolicy}
use Rattle.vet_demand.specs.declared.project.NamedProject.{NamedProject}
use Rattle.vet_demand.specs.NamedProject.{named_project_eq}
use Rattle.vet_demand.specs.Policies.{keyed_policy_eq, policies_eq}
use Rattle.vet_entries.specs.declared.entry.Source.TheVariants.{Own}
use Rattle.vet_entries.specs.declared.held_peer.HeldPeer.{HeldPeer}
use Rattle.vet_entries.specs.declared.peer_settings.PeerSettings.{PeerSettings}
use Rattle.vet_entries.specs.HeldPeer.{peer_of}
use Rattle.vet_entries.specs.Import.{same_content}
use Rattle.vet_entries.specs.PeerContent.{PeerContentValue}
use Rattle.vet_entries.specs.PeerSettings.{settings_eq}
use Rattle.vet_entries.specs.PublisherRecords.{package_eq}
use Rattle.vet_entries.specs.Replaced.{is_dated, same_entries}
use Rattle.vet_files.specs.FilesContent.{FilesValue, content_for, each_is_set}
use Rattle.vet_files.specs.declared.imports_file.ImportedPeer.{ImportedPeer}
use Rattle.vet_register.specs.Held.{HeldValue, policy_at, project_at}
use Rattle.vet_register.specs.Replacing.{tool_of_files}
use Rattle.vet_register.specs.ToolSettings.{tool_eq}

-- whether an equal criterion is held; never true of a built-in name
abbrev pub is_held : Criteria → Criterion → Bool
is_held criteria c = if is_built_in c.name then false else option_eq criterion_eq (table.get criteria c.name) (Some c)

-- whether equal settings of a peer are held
abbrev pub has_settings : List HeldPeer → PeerSettings → Bool
has_settings peers settings =
    option_map_or (λ (p : HeldPeer). settings_eq p.settings settings) (peer_of peers settings.name) false

-- whether a peer is held with a content: the same criteria and the same entries, in any order
abbrev pub has_content : List HeldPeer → Name → PeerContentValue → Bool
has_content peers name content =
    option_map_or (λ (p : HeldPeer). same_content name p.content content) (peer_of peers name) false

-- whether an equal policy is held, and an equal project
abbrev pub has_policy : List KeyedPolicy → KeyedPolicy → Bool
has_policy policies p = option_map_or (λ held. keyed_policy_eq held p) (policy_at policies p.key) false

abbrev pub has_project : List NamedProject → NamedProject → Bool
has_project projects p = option_map_or (λ held. named_project_eq held p) (project_at projects p.name) false

-- ---- what files hold

-- whether some criteria are those held besides the built-in ones: each is held, and there are as many
abbrev pub has_criteria : Criteria → List Criterion → Bool
has_criteria criteria listed =
    (length listed == length (filter (λ n. not (is_built_in n)) (table.keys criteria)))
    && list_all (is_held criteria) listed

-- whether a peer is held with these settings, and with its content in an imports file
abbrev pub has_peer : List HeldPeer → List ImportedPeer → PeerSettings → Bool
has_peer peers contents settings =
    has_settings peers settings && has_content peers settings.name (content_for contents settings.name)

-- whether the peers of files are those held: each is held, and there are as many; and whether no other is in the
-- imports file
abbrev pub has_peers : List HeldPeer → FilesValue → Bool
has_peers peers f =
    (length f.settings == length peers) && (list_all (has_peer peers f.contents) f.settings && each_is_set f)

-- whether the lists of files are held: publisher records, policies, and the settings for the tool
abbrev pub has_lists : HeldValue → FilesValue → Bool
has_lists held f =
    pointwise package_eq held.facts.publishers f.publishers
    && (policies_eq held.policies f.policies && tool_eq held.settings (tool_of_files f))

-- whether all that files hold is held, as sets, and nothing else except projects and own exemptions with a last day
abbrev pub has_files : HeldValue → FilesValue → Bool
has_files held f =
    has_criteria held.facts.criteria f.criteria
    && (same_entries is_dated Own held.facts.entries f.entries && (has_peers held.facts.peers f && has_lists held f))
