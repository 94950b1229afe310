-- The rows of criteria, peers and policies (ours).
use Rattle.std.specs.Prelude.{List, [], ◌++◌, ◌∷◌, map as mapped}
use Rattle.std.specs.List.{flat_map}
use Rattle.std.specs.FinMap as map
use Rattle.vet_base.specs.Criteria.{Criteria}
use Rattle.vet_base.specs.FurtherCriteria.{further}
use Rattle.vet_base.specs.Names.{NameSet}
use Rattle.vet_base.specs.Words.{Name}
use Rattle.vet_base.specs.declared.criterion.Criterion.{Criterion}
use Rattle.vet_demand.specs.PolicyKey.{key_text}
use Rattle.vet_demand.specs.declared.dependency_criteria.DependencyItem.{DependencyItem}
use Rattle.vet_demand.specs.declared.policies.KeyedPolicy.{KeyedPolicy}
use Rattle.vet_entries.specs.Facts.{Facts}
use Rattle.vet_entries.specs.declared.held_peer.HeldPeer.{HeldPeer}
use Rattle.vet_entries.specs.declared.peer_settings.PeerSettings.{PeerSettings}
use Rattle.vet_item_rows.specs.Columns.{flag, own_peer, packed_map, packed_names, packed_names_option}
use Rattle.vet_item_rows.specs.Packed.{packed_option}
use Rattle.vet_tables.specs.Cells.{Row}
use Rattle.vet_tables.specs.declared.cell.Cell.TheVariants.{Blob, Int, Text}

-- a criterion of a peer, whose name is empty for one's own
abbrev pub criterion_row : Name → Criterion → Row
criterion_row peer c =
    Text peer ∷ Text c.name ∷ Blob (packed_option c.description) ∷ Blob (packed_option c.url)
    ∷ Blob (packed_names c.implies) ∷ []

-- the rows of a table of criteria
abbrev pub criteria_rows : Name → Criteria → List Row
criteria_rows peer table = mapped (criterion_row peer) (further table)

-- those of a peer
abbrev pub peer_criteria : HeldPeer → List Row
peer_criteria peer = criteria_rows peer.settings.name peer.content.table

-- one's own, then those of each peer
abbrev pub all_criteria : Facts → List Row
all_criteria facts = criteria_rows own_peer facts.criteria ++ flat_map peer_criteria facts.peers

-- how a peer is imported
abbrev pub peer_row : PeerSettings → Row
peer_row settings =
    Text settings.name ∷ Blob (packed_names settings.url) ∷ Blob (packed_names settings.exclude)
    ∷ Blob (packed_map (map.entries settings.map)) ∷ []

-- the criteria for dependencies, as the items of a map
abbrev pub dependency_items : List DependencyItem → List (Name × NameSet)
dependency_items items = mapped (λ i. (i.«package», i.criteria)) items

abbrev pub policy_row : KeyedPolicy → Row
policy_row p =
    Text (key_text p.key) ∷ Int (flag p.policy.audit_as_crates_io) ∷ Blob (packed_names_option p.policy.criteria)
    ∷ Blob (packed_names_option p.policy.dev_criteria)
    ∷ Blob (packed_map (dependency_items p.policy.dependency_criteria)) ∷ Blob (packed_option p.policy.notes) ∷ []
