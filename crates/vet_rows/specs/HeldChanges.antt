-- The rows that an edit of what is held removes and adds (ours).
use Rattle.std.specs.Prelude.{List, [], ◌∷◌, map}
use Rattle.std.specs.List.{flat_map}
use Rattle.vet_entries.specs.declared.held_peer.HeldPeer.{HeldPeer}
use Rattle.vet_item_rows.specs.EntryRows.{all_entries, package_rows}
use Rattle.vet_item_rows.specs.ProjectRows.{edge_rows, node_rows}
use Rattle.vet_item_rows.specs.SettingRows.{all_criteria, peer_row, policy_row}
use Rattle.vet_register.specs.declared.held.HeldEdit.{HeldEdit}
use Rattle.vet_register.specs.declared.held.HeldEdit.TheVariants as edit
use Rattle.vet_register.specs.Held.{HeldValue}
use Rattle.vet_rows.specs.DemandRows.{the_policy}
use Rattle.vet_rows.specs.FactsRows.{fact_exchanges}
use Rattle.vet_rows.specs.RowExchanges.{exchange_of, item_exchange}
use Rattle.vet_rows.specs.declared.row_changes.exchange.Exchange.{Exchange}
use Rattle.vet_tables.specs.Cells.{Row}
use Rattle.vet_tables.specs.declared.table_name.DemandTable.TheVariants.{Edges, Nodes, Policies}
use Rattle.vet_tables.specs.declared.table_name.FactsTable.TheVariants.{Criteria, Entries, Peers, Publishers}
use Rattle.vet_tables.specs.declared.table_name.TableName.TheVariants as table

-- the rows of the settings of some peers
abbrev pub peer_rows : List HeldPeer → List Row
peer_rows peers = map (λ (peer : HeldPeer). peer_row peer.settings) peers

-- if all files are replaced, the rows of everything that files hold are removed
abbrev pub held_exchanges : HeldEdit → HeldValue → List Exchange
held_exchanges edit.Nothing held = []
held_exchanges (edit.Facts change) held = fact_exchanges change held.facts
held_exchanges (edit.Policies change) held = item_exchange (table.Demand Policies) the_policy change held.policies ∷ []
held_exchanges (edit.Projects change) held =
    item_exchange (table.Demand Nodes) node_rows change held.projects
    ∷ item_exchange (table.Demand Edges) edge_rows change held.projects ∷ []
held_exchanges (edit.Files files) held =
    exchange_of (table.Facts Criteria) (all_criteria held.facts) (all_criteria files.facts.content)
    ∷ exchange_of (table.Facts Entries) (all_entries held.facts) (all_entries files.facts.content)
    ∷ exchange_of (table.Facts Publishers) (flat_map package_rows held.facts.publishers)
    (flat_map package_rows files.facts.content.publishers)
    ∷ exchange_of (table.Demand Policies) (map policy_row held.policies) (map policy_row files.policies.items)
    ∷ exchange_of (table.Facts Peers) (peer_rows held.facts.peers) (peer_rows files.facts.content.peers) ∷ []
