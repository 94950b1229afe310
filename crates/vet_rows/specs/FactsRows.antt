-- The rows of facts of packages, and those that an edit of the facts removes and adds (ours).
use Rattle.std.specs.Prelude.{List, [], ◌∷◌, map}
use Rattle.std.specs.List.{flat_map, slice_get}
use Rattle.vet_entries.specs.declared.facts.Edit.{Edit}
use Rattle.vet_entries.specs.declared.facts.Edit.TheVariants as edit
use Rattle.vet_entries.specs.declared.facts.HeldEntry.{HeldEntry}
use Rattle.vet_entries.specs.declared.held_peer.HeldPeer.{HeldPeer}
use Rattle.vet_entries.specs.Facts.{Facts}
use Rattle.vet_entries.specs.HeldPeer.{peer_of}
use Rattle.vet_item_rows.specs.Columns.{own_peer}
use Rattle.vet_item_rows.specs.EntryRows.{all_entries, entry_row, package_rows, peer_entries}
use Rattle.vet_item_rows.specs.SettingRows.{all_criteria, criteria_rows, peer_criteria, peer_row}
use Rattle.vet_rows.specs.KeyedItems.{one_row, rows_if}
use Rattle.vet_rows.specs.RowExchanges.{exchange_of, item_exchange}
use Rattle.vet_rows.specs.declared.row_changes.exchange.Exchange.{Exchange}
use Rattle.vet_tables.specs.Cells.{Row}
use Rattle.vet_tables.specs.declared.table_name.FactsTable.{FactsTable}
use Rattle.vet_tables.specs.declared.table_name.FactsTable.TheVariants.{Criteria, Entries, Peers, Publishers}
use Rattle.vet_tables.specs.declared.table_name.TableName.TheVariants as table

-- ---- the rows of facts

-- in each of their tables
abbrev pub rows_of_facts : Facts → FactsTable → List Row
rows_of_facts facts Criteria = all_criteria facts
rows_of_facts facts Entries = all_entries facts
rows_of_facts facts Publishers = flat_map package_rows facts.publishers
rows_of_facts facts Peers = map (λ peer. peer_row peer.settings) facts.peers

-- of an own entry, and of a peer's settings
abbrev pub own_entry : HeldEntry → List Row
own_entry = one_row entry_row

abbrev pub the_peer : HeldPeer → List Row
the_peer = one_row (λ (peer : HeldPeer). peer_row peer.settings)

-- ---- what an edit changes

-- If a peer is removed or added, so are its criteria and entries. If its content is exchanged, all of them are removed.
-- DayChanges has the rows of days.
abbrev pub fact_exchanges : Edit → Facts → List Exchange
fact_exchanges (edit.Criteria criteria) facts =
    exchange_of (table.Facts Criteria) (criteria_rows own_peer facts.criteria) (criteria_rows own_peer criteria) ∷ []
fact_exchanges (edit.Insert place held) facts = exchange_of (table.Facts Entries) [] (own_entry held) ∷ []
fact_exchanges (edit.Remove place) facts =
    exchange_of (table.Facts Entries) (rows_if own_entry (slice_get facts.entries place)) [] ∷ []
fact_exchanges (edit.Peer change) facts =
    item_exchange (table.Facts Criteria) peer_criteria change facts.peers
    ∷ item_exchange (table.Facts Entries) peer_entries change facts.peers
    ∷ item_exchange (table.Facts Peers) the_peer change facts.peers ∷ []
fact_exchanges (edit.Settings settings) facts =
    exchange_of (table.Facts Peers) (rows_if the_peer (peer_of facts.peers settings.name)) (peer_row settings ∷ []) ∷ []
fact_exchanges (edit.Content name content) facts =
    exchange_of (table.Facts Criteria) (rows_if peer_criteria (peer_of facts.peers name))
    (criteria_rows name content.table)
    ∷ exchange_of (table.Facts Entries) (rows_if peer_entries (peer_of facts.peers name))
    (map entry_row content.entries) ∷ []
fact_exchanges (edit.Publishers change) facts =
    item_exchange (table.Facts Publishers) package_rows change facts.publishers ∷ []
fact_exchanges (edit.Today day) facts = []
