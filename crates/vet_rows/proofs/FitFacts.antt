-- The rows of facts, and those that an edit of them removes and adds, have the columns of their tables.
use Rattle.std.proofs.Common.{List, [], ◌∷◌, map}
use Rattle.std.specs.List.{flat_map, slice_get}
use Rattle.vet_base.specs.Criteria.{Criteria as CriteriaValue}
use Rattle.vet_base.specs.FurtherCriteria.{further}
use Rattle.vet_base.specs.Words.{Name}
use Rattle.vet_base.specs.declared.criterion.Criterion.{Criterion}
use Rattle.vet_entries.specs.Facts.{Facts}
use Rattle.vet_entries.specs.HeldPeer.{peer_of}
use Rattle.vet_entries.specs.declared.facts.Edit.{Edit}
use Rattle.vet_entries.specs.declared.facts.Edit.TheVariants as edit
use Rattle.vet_entries.specs.declared.facts.HeldEntry.{HeldEntry}
use Rattle.vet_entries.specs.declared.held_peer.HeldPeer.{HeldPeer}
use Rattle.vet_entries.specs.declared.peer_settings.PeerSettings.{PeerSettings}
use Rattle.vet_entries.specs.declared.publisher.Publisher.{Publisher}
use Rattle.vet_entries.specs.declared.publisher_records.PackagePublishers.{PackagePublishers}
use Rattle.vet_item_rows.specs.Columns.{own_peer}
use Rattle.vet_item_rows.specs.EntryRows.{all_entries, entry_row, package_rows, peer_entries, publisher_row}
use Rattle.vet_item_rows.specs.SettingRows.{all_criteria, criteria_rows, criterion_row, peer_criteria, peer_row}
use Rattle.vet_rows.proofs.FitLists.{AllFit, AreRows, both_fit, flat_fit, if_fit, item_fits, mapped_fit, none_fit}
use Rattle.vet_rows.proofs.FitLists.{one_fit}
use Rattle.vet_rows.specs.FactsRows.{fact_exchanges, own_entry, rows_of_facts, the_peer}
use Rattle.vet_tables.specs.Cells.{IsRowOf}
use Rattle.vet_tables.specs.Forms.{form_of}
use Rattle.vet_tables.specs.declared.table_name.FactsTable.{FactsTable}
use Rattle.vet_tables.specs.declared.table_name.FactsTable.TheVariants.{Criteria, Entries, Peers, Publishers}
use Rattle.vet_tables.specs.declared.table_name.TableName.TheVariants as table

criterion_fits : (peer : Name) (c : Criterion) → IsRowOf (form_of (table.Facts Criteria)) (criterion_row peer c)
criterion_fits peer c = (tt, (tt, (tt, (tt, (tt, tt)))))

pub table_fit : (peer : Name) (criteria : CriteriaValue) → AreRows (table.Facts Criteria) (criteria_rows peer criteria)
table_fit peer criteria =
    mapped_fit (table.Facts Criteria) (criterion_row peer) (criterion_fits peer) (further criteria)

pub peer_table_fit : (p : HeldPeer) → AreRows (table.Facts Criteria) (peer_criteria p)
peer_table_fit p = table_fit p.settings.name p.content.table

pub criteria_fit : (facts : Facts) → AreRows (table.Facts Criteria) (all_criteria facts)
criteria_fit facts =
    both_fit (table.Facts Criteria) (criteria_rows own_peer facts.criteria) (flat_map peer_criteria facts.peers)
    (table_fit own_peer facts.criteria) (flat_fit (table.Facts Criteria) peer_criteria peer_table_fit facts.peers)

entry_fits : (h : HeldEntry) → IsRowOf (form_of (table.Facts Entries)) (entry_row h)
entry_fits h = (tt, (tt, (tt, (tt, (tt, (tt, (tt, (tt, (tt, (tt, (tt, (tt, (tt, (tt, (tt, tt)))))))))))))))

pub some_entries_fit : (entries : List HeldEntry) → AreRows (table.Facts Entries) (map entry_row entries)
some_entries_fit entries = mapped_fit (table.Facts Entries) entry_row entry_fits entries

pub own_entry_fits : (h : HeldEntry) → AreRows (table.Facts Entries) (entry_row h ∷ [])
own_entry_fits h = one_fit (table.Facts Entries) (entry_row h) (entry_fits h)

pub peer_entries_fit : (p : HeldPeer) → AreRows (table.Facts Entries) (peer_entries p)
peer_entries_fit p = some_entries_fit p.content.entries

pub entries_fit : (facts : Facts) → AreRows (table.Facts Entries) (all_entries facts)
entries_fit facts =
    both_fit (table.Facts Entries) (map entry_row facts.entries) (flat_map peer_entries facts.peers)
    (some_entries_fit facts.entries) (flat_fit (table.Facts Entries) peer_entries peer_entries_fit facts.peers)

publisher_fits : (name : Name) (p : Publisher) → IsRowOf (form_of (table.Facts Publishers)) (publisher_row name p)
publisher_fits name p = (tt, (tt, (tt, (tt, (tt, (tt, tt))))))

pub package_fit : (p : PackagePublishers) → AreRows (table.Facts Publishers) (package_rows p)
package_fit p =
    mapped_fit (table.Facts Publishers) (publisher_row p.«package») (publisher_fits p.«package») p.publishers

pub publishers_fit : (packages : List PackagePublishers)
    → AreRows (table.Facts Publishers) (flat_map package_rows packages)
publishers_fit = flat_fit (table.Facts Publishers) package_rows package_fit

pub settings_fit : (settings : PeerSettings) → IsRowOf (form_of (table.Facts Peers)) (peer_row settings)
settings_fit settings = (tt, (tt, (tt, (tt, tt))))

pub peer_fits : (p : HeldPeer) → IsRowOf (form_of (table.Facts Peers)) (peer_row p.settings)
peer_fits p = settings_fit p.settings

pub peers_fit : (peers : List HeldPeer)
    → AreRows (table.Facts Peers) (map (λ (p : HeldPeer). peer_row p.settings) peers)
peers_fit = mapped_fit (table.Facts Peers) (λ (p : HeldPeer). peer_row p.settings) peer_fits

pub facts_rows_fit : (facts : Facts) (t : FactsTable) → AreRows (table.Facts t) (rows_of_facts facts t)
facts_rows_fit facts Criteria = criteria_fit facts
facts_rows_fit facts Entries = entries_fit facts
facts_rows_fit facts Publishers = publishers_fit facts.publishers
facts_rows_fit facts Peers = peers_fit facts.peers

-- ---- by an edit

the_peer_fits : (p : HeldPeer) → AreRows (table.Facts Peers) (the_peer p)
the_peer_fits p = one_fit (table.Facts Peers) (peer_row p.settings) (peer_fits p)

pub facts_fit : (e : Edit) (f : Facts) → AllFit (fact_exchanges e f)
facts_fit (edit.Criteria criteria) f = ((table_fit own_peer f.criteria, table_fit own_peer criteria), tt)
facts_fit (edit.Insert place h) f = ((none_fit (table.Facts Entries), own_entry_fits h), tt)
facts_fit (edit.Remove place) f = (
  (if_fit (table.Facts Entries) own_entry own_entry_fits (slice_get f.entries place), none_fit (table.Facts Entries)),
  tt,
)
facts_fit (edit.Peer change) f = (
  item_fits (table.Facts Criteria) peer_criteria peer_table_fit change f.peers,
  (
    item_fits (table.Facts Entries) peer_entries peer_entries_fit change f.peers,
    (item_fits (table.Facts Peers) the_peer the_peer_fits change f.peers, tt),
  ),
)
facts_fit (edit.Settings settings) f = (
  (
    if_fit (table.Facts Peers) the_peer the_peer_fits (peer_of f.peers settings.name),
    one_fit (table.Facts Peers) (peer_row settings) (settings_fit settings),
  ),
  tt,
)
facts_fit (edit.Content name content) f = (
  (if_fit (table.Facts Criteria) peer_criteria peer_table_fit (peer_of f.peers name), table_fit name content.table),
  (
    (
      if_fit (table.Facts Entries) peer_entries peer_entries_fit (peer_of f.peers name),
      some_entries_fit content.entries,
    ),
    tt,
  ),
)
facts_fit (edit.Publishers change) f =
    (item_fits (table.Facts Publishers) package_rows package_fit change f.publishers, tt)
facts_fit (edit.Today day) f = tt
