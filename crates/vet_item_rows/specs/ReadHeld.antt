-- What the rows of criteria, entries, publishers, peers and days stand for together (ours).
use Rattle.std.specs.Prelude.{◌≡◌, ◌≤◌, List, ◌++◌, map}
use Rattle.std.specs.Cmp.Lexicographic.{slice_cmp}
use Rattle.std.specs.List.{All, flat_map}
use Rattle.std.specs.Ordering.{nat_cmp}
use Rattle.vet_base.specs.Criteria.{Criteria, IsTable}
use Rattle.vet_base.specs.FurtherCriteria.{further}
use Rattle.vet_base.specs.Items.{SameItems}
use Rattle.vet_base.specs.Keyed.{IsByKey}
use Rattle.vet_base.specs.declared.criterion.Criterion.{Criterion}
use Rattle.vet_base.specs.declared.limits.TheConstants.{MOST_PUBLISHERS}
use Rattle.vet_entries.specs.Facts.{Facts}
use Rattle.vet_entries.specs.HeldPeer.{peer_name}
use Rattle.vet_entries.specs.Numbered.{AreByNumber}
use Rattle.vet_entries.specs.PublisherRecords.{IsByName, records_total}
use Rattle.vet_entries.specs.Publishers.{IsInOrder}
use Rattle.vet_entries.specs.declared.entry.Source.{Source}
use Rattle.vet_entries.specs.declared.entry.Source.TheVariants.{Own, Peer}
use Rattle.vet_entries.specs.declared.facts.HeldEntry.{HeldEntry}
use Rattle.vet_entries.specs.declared.held_peer.HeldPeer.{HeldPeer}
use Rattle.vet_entries.specs.declared.peer_settings.PeerSettings.{PeerSettings}
use Rattle.vet_entries.specs.declared.publisher_records.PackagePublishers.{PackagePublishers}
use Rattle.vet_item_rows.specs.DayRows.{IsPlain, last_rows, today_rows}
use Rattle.vet_item_rows.specs.EntryRows.{all_entries, package_rows}
use Rattle.vet_item_rows.specs.ReadFacts.{IsPeerSettings}
use Rattle.vet_item_rows.specs.ReadPeers.{IsHeldPeer}
use Rattle.vet_item_rows.specs.SettingRows.{all_criteria, peer_row}
use Rattle.vet_item_rows.specs.Values.{IsCriterion, IsDay, IsHeldEntry, IsPackage, IsPublisher, MayBe}
use Rattle.vet_item_rows.specs.declared.read.criteria.SourcedCriterion.{SourcedCriterion}
use Rattle.vet_tables.specs.Cells.{RowsValue}
use Rattle.vet_tables.specs.declared.table_name.DaysTable.TheVariants.{Lasts, Today}
use Rattle.vet_tables.specs.declared.table_name.FactsTable.TheVariants.{Criteria as CriteriaTable, Entries, Peers}
use Rattle.vet_tables.specs.declared.table_name.FactsTable.TheVariants.{Publishers}
use Rattle.vet_tables.specs.declared.table_name.TableName.TheVariants as table

-- ---- facts as they are held

-- each entry is of a source
abbrev pub AreFrom : Source → List HeldEntry → Type 0
AreFrom source entries = All (λ h. h.entry.source ≡ source) entries

-- the entries of a peer are its own
abbrev pub HasItsEntries : HeldPeer → Type 0
HasItsEntries p = AreFrom (Peer p.settings.name) p.content.entries

-- no entry of a peer has a last day
abbrev pub HasNoLastDays : HeldPeer → Type 0
HasNoLastDays p = All IsPlain p.content.entries

-- criteria are a table; entries, peers and records are in their order, each entry is of its source, only own entries
-- have a last day, and there are not too many records
pub record AreInForm (facts : Facts) : Type 0 where
  pub criteria : IsTable facts.criteria
  pub by_number : AreByNumber facts.entries
  pub own : AreFrom Own facts.entries
  pub by_name : IsByKey (slice_cmp nat_cmp) peer_name facts.peers
  pub peers : All IsHeldPeer facts.peers
  pub theirs : All HasItsEntries facts.peers
  pub plain : All HasNoLastDays facts.peers
  pub packages : IsByName facts.publishers
  pub in_order : All (λ p. IsInOrder p.publishers) facts.publishers
  pub few : records_total facts.publishers ≤ MOST_PUBLISHERS

-- ---- their values can be held

abbrev pub AreCriteria : Criteria → Type 0
AreCriteria table = All IsCriterion (further table)

pub record IsPeerValue (p : HeldPeer) : Type 0 where
  pub settings : IsPeerSettings p.settings
  pub criteria : AreCriteria p.content.table
  pub entries : All IsHeldEntry p.content.entries

pub record IsPackageValue (p : PackagePublishers) : Type 0 where
  pub name : IsPackage p.«package»
  pub records : All IsPublisher p.publishers

pub record AreFactsValues (facts : Facts) : Type 0 where
  pub criteria : AreCriteria facts.criteria
  pub entries : All IsHeldEntry facts.entries
  pub peers : All IsPeerValue facts.peers
  pub publishers : All IsPackageValue facts.publishers
  pub today : MayBe IsDay facts.today

-- ---- what is read of them

-- criteria of a source
abbrev pub sourced : Source → Criterion → SourcedCriterion
sourced source c = record { source = source; criterion = c }

abbrev pub peer_sourced : HeldPeer → List SourcedCriterion
peer_sourced p = map (sourced (Peer p.settings.name)) (further p.content.table)

-- one's own, then those of each peer
abbrev pub sourced_criteria : Facts → List SourcedCriterion
sourced_criteria facts = map (sourced Own) (further facts.criteria) ++ flat_map peer_sourced facts.peers

abbrev pub entries_of_peer : HeldPeer → List HeldEntry
entries_of_peer p = p.content.entries

abbrev pub sourced_entries : Facts → List HeldEntry
sourced_entries facts = facts.entries ++ flat_map entries_of_peer facts.peers

abbrev pub settings_of : HeldPeer → PeerSettings
settings_of p = p.settings

-- criteria, entries and settings of some facts, in whatever order
pub record AreItemsOf (criteria : List SourcedCriterion) (entries : List HeldEntry) (settings : List PeerSettings)
    (facts : Facts) : Type 0 where
  pub same_criteria : SameItems criteria (sourced_criteria facts)
  pub same_entries : SameItems entries (sourced_entries facts)
  pub same_settings : SameItems settings (map settings_of facts.peers)

-- ---- rows

-- the rows of six tables are those of some facts, in any order
pub record AreRowsOf (rows : RowsValue) (facts : Facts) : Type 0 where
  pub criteria : SameItems (rows (table.Facts CriteriaTable)) (all_criteria facts)
  pub entries : SameItems (rows (table.Facts Entries)) (all_entries facts)
  pub publishers : SameItems (rows (table.Facts Publishers)) (flat_map package_rows facts.publishers)
  pub peers : SameItems (rows (table.Facts Peers)) (map (λ peer. peer_row peer.settings) facts.peers)
  pub today : SameItems (rows (table.Days Today)) (today_rows facts.today)
  pub lasts : SameItems (rows (table.Days Lasts)) (flat_map last_rows facts.entries)
