-- The rows of facts that can be held have a text in each column of texts.
use Rattle.std.proofs.Common.{IsUtf8, inl, inr, map as mapped}
use Rattle.std.specs.List.{flat_map}
use Rattle.vet_base.proofs.ItemLemmas.{in_append}
use Rattle.vet_base.specs.FurtherCriteria.{further}
use Rattle.vet_base.specs.Items.{IsIn}
use Rattle.vet_base.specs.Words.{Name}
use Rattle.vet_base.specs.declared.criterion.Criterion.{Criterion}
use Rattle.vet_entries.specs.Facts.{Facts}
use Rattle.vet_entries.specs.declared.entry.Source.{Source}
use Rattle.vet_entries.specs.declared.entry.Source.TheVariants.{Own, Peer}
use Rattle.vet_entries.specs.declared.facts.HeldEntry.{HeldEntry}
use Rattle.vet_entries.specs.declared.held_peer.HeldPeer.{HeldPeer}
use Rattle.vet_entries.specs.declared.kind.Kind.{Kind}
use Rattle.vet_entries.specs.declared.kind.Kind.TheVariants as kind
use Rattle.vet_entries.specs.declared.publisher.Publisher.{Publisher}
use Rattle.vet_item_rows.specs.Columns.{own_peer, peer_of_source}
use Rattle.vet_item_rows.specs.EntryRows.{all_entries, entry_row, package_rows, peer_entries, publisher_row, row_saying}
use Rattle.vet_item_rows.specs.EntryRows.{unused, with_kind}
use Rattle.vet_item_rows.specs.KindColumns.{KindColumns}
use Rattle.vet_item_rows.specs.ReadHeld.{AreFactsValues, IsPackageValue, IsPeerValue}
use Rattle.vet_item_rows.specs.SettingRows.{all_criteria, criterion_row, peer_criteria, peer_row}
use Rattle.vet_item_rows.specs.Values.{IsCriterion, IsHeldEntry, IsKind, IsPublisher, IsSource}
use Rattle.vet_rows.specs.FactsRows.{rows_of_facts}
use Rattle.vet_store.proofs.HeldTexts.{name_text, no_text, package_text, req_text, version_is_text}
use Rattle.vet_store.proofs.RowTexts.{AreTold, each_flat, each_row}
use Rattle.vet_tables.specs.Cells.{Row}
use Rattle.vet_tables.specs.declared.table_name.FactsTable.{FactsTable}
use Rattle.vet_tables.specs.declared.table_name.FactsTable.TheVariants.{Criteria, Entries, Peers, Publishers}

criterion_told : (peer : Name) → IsUtf8 peer → (c : Criterion) → IsCriterion c
    → AreTold (criterion_row peer c)
criterion_told peer text c h = (text, (name_text c.name h.name, (tt, (tt, (tt, tt)))))

source_text : (source : Source) → IsSource source → IsUtf8 (peer_of_source source)
source_text Own h = no_text
source_text (Peer name) h = name_text name h

-- the columns of a kind that are texts
kind_texts : (k : Kind) → IsKind k → IsUtf8 (with_kind k unused).a × IsUtf8 (with_kind k unused).b
kind_texts (kind.Full v audit) h = (version_is_text v h.0, no_text)
kind_texts (kind.Delta d audit) h = (version_is_text d.from h.0.0, version_is_text d.to h.0.1)
kind_texts (kind.Violation req audit) h = (req_text req h.0, no_text)
kind_texts (kind.Wildcard w g) h = (no_text, no_text)
kind_texts (kind.Trusted w) h = (no_text, no_text)
kind_texts (kind.Exemption v g l) h = (version_is_text v h.0, no_text)

entry_told : (h : HeldEntry) (said : KindColumns) → IsHeldEntry h → IsUtf8 said.a → IsUtf8 said.b
    → AreTold (row_saying h said)
entry_told h said is a b = (
  tt,
  (
    source_text h.entry.source is.source,
    (
      package_text h.entry.«package» is.of_package,
      (tt, (a, (b, (tt, (tt, (tt, (tt, (tt, (tt, (tt, (tt, (tt, tt)))))))))))),
    ),
  ),
)

held_told : (h : HeldEntry) → IsHeldEntry h → AreTold (entry_row h)
held_told h is =
    let texts = kind_texts h.entry.kind is.kind in
    entry_told h (with_kind h.entry.kind unused) is texts.0 texts.1

publisher_told : (name : Name) → IsUtf8 name → (p : Publisher) → IsPublisher p
    → AreTold (publisher_row name p)
publisher_told name text p h = (text, (version_is_text p.version h.version, (tt, (tt, (tt, (tt, tt))))))

peer_told : (p : HeldPeer) → IsPeerValue p → AreTold (peer_row p.settings)
peer_told p h = (name_text p.settings.name h.settings.name, (tt, (tt, (tt, tt))))

module _ (facts : Facts) (held : AreFactsValues facts) where
  criteria_told : (r : Row) → IsIn r (all_criteria facts) → AreTold r
  criteria_told r i = elim (in_append (mapped (criterion_row own_peer) (further facts.criteria))
      (flat_map peer_criteria facts.peers) r i) [
        | inl own ↦ each_row IsCriterion (criterion_row own_peer)
            (criterion_told own_peer no_text) (further facts.criteria) held.criteria r own
        | inr theirs ↦ each_flat IsPeerValue peer_criteria
            (λ p h. each_row IsCriterion (criterion_row p.settings.name)
            (criterion_told p.settings.name (name_text p.settings.name h.settings.name)) (further p.content.table)
            h.criteria) facts.peers held.peers r theirs
      ]

  entries_told : (r : Row) → IsIn r (all_entries facts) → AreTold r
  entries_told r i = elim (in_append (mapped entry_row facts.entries)
      (flat_map peer_entries facts.peers) r i) [
        | inl own ↦ each_row IsHeldEntry entry_row held_told facts.entries
            held.entries r own
        | inr theirs ↦ each_flat IsPeerValue peer_entries
            (λ p h. each_row IsHeldEntry entry_row held_told p.content.entries h.entries)
            facts.peers held.peers r theirs
      ]

  publishers_told : (r : Row) → IsIn r (flat_map package_rows facts.publishers)
      → AreTold r
  publishers_told = each_flat IsPackageValue package_rows
      (λ p h. each_row IsPublisher (publisher_row p.«package»)
      (publisher_told p.«package» (package_text p.«package» h.name)) p.publishers h.records)
      facts.publishers held.publishers

  pub facts_told : (t : FactsTable) (r : Row) → IsIn r (rows_of_facts facts t) → AreTold r
  facts_told Criteria r i = criteria_told r i
  facts_told Entries r i = entries_told r i
  facts_told Publishers r i = publishers_told r i
  facts_told Peers r i =
      each_row IsPeerValue (λ (p : HeldPeer). peer_row p.settings) peer_told facts.peers held.peers r i
