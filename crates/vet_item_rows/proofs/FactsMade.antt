-- Facts, made of what is read of their rows.
use Rattle.std.proofs.Common.{◌≡◌, List, [], ◌∷◌, ◌++◌, ◌∙◌, Option, map, refl, sym, ap, subst, inl, inr}
use Rattle.std.specs.List.{All, flat_map}
use Rattle.std.proofs.lemmas.List.{map-append}
use Rattle.vet_base.specs.Criteria.{Criteria}
use Rattle.vet_base.specs.Day.{DayValue}
use Rattle.vet_base.specs.FurtherCriteria.{further}
use Rattle.vet_base.specs.Items.{IsIn, SameItems}
use Rattle.vet_base.specs.Words.{Name}
use Rattle.vet_base.specs.declared.criterion.Criterion.{Criterion}
use Rattle.vet_base.proofs.ItemLemmas.{all_in, in_all, in_append, in_map, map_in}
use Rattle.vet_base.proofs.KeyedItems.{of_one_key}
use Rattle.vet_base.proofs.Rising.{R, only_equal}
use Rattle.std.proofs.lemmas.Cmp.{nat_list_cmp_total}
use Rattle.vet_entries.specs.Facts.{Facts}
use Rattle.vet_entries.specs.HeldPeer.{peer_name}
use Rattle.vet_entries.specs.declared.entry.Source.{Source}
use Rattle.vet_entries.specs.declared.entry.Source.TheVariants.{Own, Peer}
use Rattle.vet_entries.specs.declared.facts.HeldEntry.{HeldEntry}
use Rattle.vet_entries.specs.declared.held_peer.HeldPeer.{HeldPeer}
use Rattle.vet_entries.specs.declared.peer_settings.PeerSettings.{PeerSettings}
use Rattle.vet_entries.specs.declared.publisher.Publisher.{Publisher}
use Rattle.vet_entries.specs.declared.publisher_records.PackagePublishers.{PackagePublishers}
use Rattle.vet_item_rows.specs.Columns.{peer_of_source}
use Rattle.vet_item_rows.specs.DayRows.{IsPlain}
use Rattle.vet_item_rows.specs.EntryRows.{all_entries, entry_row, package_rows}
use Rattle.vet_item_rows.specs.Gathered.{items_at}
use Rattle.vet_item_rows.specs.ReadFacts.{IsFiledPublisher, IsPeerSettings, IsRowEntry, IsSourcedCriterion}
use Rattle.vet_item_rows.specs.ReadFacts.{filed_publisher_row, sourced_criterion_row}
use Rattle.vet_item_rows.specs.ReadHeld.{AreFactsValues, AreInForm, AreItemsOf, HasItsEntries}
use Rattle.vet_item_rows.specs.ReadHeld.{IsPackageValue, IsPeerValue, entries_of_peer, peer_sourced, settings_of}
use Rattle.vet_item_rows.specs.ReadHeld.{sourced}
use Rattle.vet_item_rows.specs.ReadHeld.{sourced_criteria, sourced_entries}
use Rattle.vet_item_rows.specs.ReadPeers.{ArePartsOf, criterion_in}
use Rattle.vet_item_rows.specs.ReadRecords.{filed_records}
use Rattle.vet_item_rows.specs.ReadSourced.{of_peers, own_items}
use Rattle.vet_item_rows.specs.SettingRows.{all_criteria, criterion_row, peer_criteria, peer_row}
use Rattle.vet_item_rows.specs.Values.{IsCriterion, IsHeldEntry, IsPublisher}
use Rattle.vet_item_rows.specs.declared.read.criteria.SourcedCriterion.{SourcedCriterion}
use Rattle.vet_item_rows.specs.declared.read.gathered.WithKey.{WithKey}
use Rattle.vet_item_rows.specs.ReadBack.{EachStandsFor, IsWritten}
use Rattle.vet_item_rows.proofs.Reading.{AreThose}
use Rattle.vet_item_rows.proofs.SetsRead.{items_read, they_stand}
use Rattle.vet_item_rows.proofs.Sourcing.{in_flat, map_flat, same_own, same_peer}
use Rattle.vet_tables.specs.Cells.{Row}

-- ---- lists of images

same_mapped : {X Y : Type 0} (f : X → Y) (xs ys : List X) → SameItems xs ys → SameItems (map f xs) (map f ys)
same_mapped f xs ys same = (
  λ y i. (let x = in_map f xs y i in
      subst (λ z. IsIn z (map f ys)) (sym x.1.1) (map_in f ys x.0 (same.0 x.0 x.1.0))),
  λ y i. (let x = in_map f ys y i in
      subst (λ z. IsIn z (map f xs)) (sym x.1.1) (map_in f xs x.0 (same.1 x.0 x.1.0))),
)

map_twice : {X Y Z : Type 0} (f : X → Y) (g : Y → Z) (xs : List X) → map g (map f xs) ≡ map (λ x. g (f x)) xs
map_twice f g [] = refl
map_twice f g (x ∷ xs) = ap (λ zs. g (f x) ∷ zs) (map_twice f g xs)

flat_same : {X Y : Type 0} (f g : X → List Y) (xs : List X) → ((x : X) → f x ≡ g x) → flat_map f xs ≡ flat_map g xs
flat_same f g xs e = (let same : f ≡ g = λ i x. e x i in ap (λ h. flat_map h xs) same)

alone : (source : Source) (cs : List Criterion) → map criterion_in (map (sourced source) cs) ≡ cs
alone source [] = refl
alone source (c ∷ cs) = ap (λ ds. c ∷ ds) (alone source cs)

-- ---- parts of facts in form

module _ (facts : Facts) (form : AreInForm facts) where
  once : (p q : HeldPeer) → IsIn p facts.peers → IsIn q facts.peers → peer_name p ≡ peer_name q → p ≡ q
  once p q i j e = of_one_key R nat_list_cmp_total only_equal peer_name facts.peers form.by_name p q i j e

  own_entry : (h : HeldEntry) → IsIn h facts.entries → h.entry.source ≡ Own
  own_entry h i = in_all (λ (g : HeldEntry). g.entry.source ≡ Own) facts.entries form.own h i

  their_entry : (p : HeldPeer) → IsIn p facts.peers → (h : HeldEntry) → IsIn h (entries_of_peer p)
      → h.entry.source ≡ Peer (peer_name p)
  their_entry p i h j =
      in_all (λ (g : HeldEntry). g.entry.source ≡ Peer p.settings.name) p.content.entries
      (in_all HasItsEntries facts.peers form.theirs p i) h j

  own_criteria : List SourcedCriterion
  own_criteria = map (sourced Own) (further facts.criteria)

  own_criterion : (c : SourcedCriterion) → IsIn c (map (sourced Own) (further facts.criteria)) → c.source ≡ Own
  own_criterion c i =
      (let x = in_map (sourced Own) (further facts.criteria) c i in ap (λ (d : SourcedCriterion). d.source) x.1.1)

  their_criterion : (p : HeldPeer) → IsIn p facts.peers → (c : SourcedCriterion) → IsIn c (peer_sourced p)
      → c.source ≡ Peer (peer_name p)
  their_criterion p i c j =
      (let x = in_map (sourced (Peer p.settings.name)) (further p.content.table) c j in
      ap (λ (d : SourcedCriterion). d.source) x.1.1)

  module _ (criteria : List SourcedCriterion) (entries : List HeldEntry) (settings : List PeerSettings)
      (items : AreItemsOf criteria entries settings facts) where
    pub own_entries_are : SameItems (own_items (λ (h : HeldEntry). h.entry.source) entries) facts.entries
    own_entries_are =
        same_own (λ (h : HeldEntry). h.entry.source) peer_name facts.entries entries_of_peer facts.peers own_entry
        their_entry once entries items.same_entries

    pub own_criteria_are : SameItems (map criterion_in (own_items (λ (c : SourcedCriterion). c.source) criteria))
        (further facts.criteria)
    own_criteria_are =
        subst (SameItems (map criterion_in (own_items (λ (c : SourcedCriterion). c.source) criteria)))
        (alone Own (further facts.criteria))
        (same_mapped criterion_in (own_items (λ (c : SourcedCriterion). c.source) criteria)
        (map (sourced Own) (further facts.criteria))
        (same_own (λ (c : SourcedCriterion). c.source) peer_name (map (sourced Own) (further facts.criteria))
        peer_sourced facts.peers own_criterion their_criterion once criteria items.same_criteria))

    pub peers_parts : ArePartsOf settings (of_peers (λ (h : HeldEntry). h.entry.source) entries)
        (of_peers (λ (c : SourcedCriterion). c.source) criteria) facts.peers
    peers_parts = record {
      by_name = form.by_name;
      held = form.peers;
      same_settings = items.same_settings;
      same_entries = same_peer (λ (h : HeldEntry). h.entry.source) peer_name facts.entries entries_of_peer facts.peers
          own_entry their_entry once entries items.same_entries;
      same_criteria = λ p i.
          subst (SameItems (map criterion_in (items_at R (peer_name p) (of_peers (λ
          (c : SourcedCriterion). c.source) criteria))))
          (alone (Peer p.settings.name) (further p.content.table))
          (same_mapped criterion_in (items_at R (peer_name p) (of_peers (λ (c : SourcedCriterion). c.source) criteria))
          (peer_sourced p)
          (same_peer (λ (c : SourcedCriterion). c.source) peer_name (map (sourced Own) (further facts.criteria))
          peer_sourced facts.peers own_criterion their_criterion once criteria items.same_criteria p i));
    }

-- ---- rows of facts

criteria_of : (source : Source) (cs : List Criterion)
    → map sourced_criterion_row (map (sourced source) cs) ≡ map (criterion_row (peer_of_source source)) cs
criteria_of source cs = map_twice (sourced source) sourced_criterion_row cs

criteria_rows_are : (facts : Facts) → map sourced_criterion_row (sourced_criteria facts) ≡ all_criteria facts
criteria_rows_are facts =
    map-append sourced_criterion_row (map (sourced Own) (further facts.criteria)) (flat_map peer_sourced facts.peers)
    ∙ (λ i. criteria_of Own (further facts.criteria) i
    ++ (map_flat sourced_criterion_row peer_sourced facts.peers
    ∙ flat_same (λ p. map sourced_criterion_row (peer_sourced p)) peer_criteria facts.peers
    (λ p. criteria_of (Peer p.settings.name) (further p.content.table))) i)

entry_rows_are : (facts : Facts) → map entry_row (sourced_entries facts) ≡ all_entries facts
entry_rows_are facts =
    map-append entry_row facts.entries (flat_map entries_of_peer facts.peers)
    ∙ ap (λ rows. map entry_row facts.entries ++ rows) (map_flat entry_row entries_of_peer facts.peers)

publisher_rows_are : (packages : List PackagePublishers)
    → map filed_publisher_row (flat_map filed_records packages) ≡ flat_map package_rows packages
publisher_rows_are packages =
    map_flat filed_publisher_row filed_records packages
    ∙ flat_same (λ p. map filed_publisher_row (filed_records p)) package_rows packages
    (λ p. map_twice (λ (x : Publisher). record { key = p.«package»; item = x }) filed_publisher_row p.publishers)

peer_rows_are : (peers : List HeldPeer) → map peer_row (map settings_of peers)
    ≡ map (λ (p : HeldPeer). peer_row p.settings) peers
peer_rows_are peers = map_twice settings_of peer_row peers

-- ---- their values can be held

module _ (facts : Facts) (values : AreFactsValues facts) where
  all_criteria_can : All IsSourcedCriterion (sourced_criteria facts)
  all_criteria_can =
      all_in IsSourcedCriterion (sourced_criteria facts)
      (λ c i. elim (in_append (map (sourced Own) (further facts.criteria)) (flat_map peer_sourced facts.peers) c i) [
        | inl own ↦ let x = in_map (sourced Own) (further facts.criteria) c own in
            subst IsSourcedCriterion (sym x.1.1)
            (tt, in_all IsCriterion (further facts.criteria) values.criteria x.0 x.1.0)
        | inr other ↦ let p = in_flat peer_sourced facts.peers c other in
            let x = in_map (sourced (Peer p.0.settings.name)) (further p.0.content.table) c p.1.1 in
            let can = in_all IsPeerValue facts.peers values.peers p.0 p.1.0 in
            subst IsSourcedCriterion (sym x.1.1)
            (can.settings.name, in_all IsCriterion (further p.0.content.table) can.criteria x.0 x.1.0)
      ])

  entry_can : (h : HeldEntry) → IsIn h (sourced_entries facts) → IsHeldEntry h
  entry_can h i = elim (in_append facts.entries (flat_map entries_of_peer facts.peers) h i) [
    | inl own ↦ in_all IsHeldEntry facts.entries values.entries h own
    | inr other ↦ let p = in_flat entries_of_peer facts.peers h other in
        in_all IsHeldEntry p.0.content.entries (in_all IsPeerValue facts.peers values.peers p.0
        p.1.0).entries h p.1.1
  ]

  all_entries_can : All IsPlain (sourced_entries facts) → All IsRowEntry (sourced_entries facts)
  all_entries_can plain =
      all_in IsRowEntry (sourced_entries facts)
      (λ h i. (entry_can h i, in_all IsPlain (sourced_entries facts) plain h i))

  all_settings_can : All IsPeerSettings (map settings_of facts.peers)
  all_settings_can =
      all_in IsPeerSettings (map settings_of facts.peers)
      (λ s i. (let p = in_map settings_of facts.peers s i in
      subst IsPeerSettings (sym p.1.1) (in_all IsPeerValue facts.peers values.peers p.0 p.1.0).settings))

  all_records_can : All IsFiledPublisher (flat_map filed_records facts.publishers)
  all_records_can =
      all_in IsFiledPublisher (flat_map filed_records facts.publishers)
      (λ f i. (let p = in_flat filed_records facts.publishers f i in
      let x = in_map (λ (x : Publisher). record { key = p.0.«package»; item = x }) p.0.publishers f p.1.1 in
      let can = in_all IsPackageValue facts.publishers values.publishers p.0 p.1.0 in
      subst IsFiledPublisher (sym x.1.1) (can.name, in_all IsPublisher p.0.publishers can.records x.0 x.1.0)))

-- ---- so they are read

pub these_rows : (written table shown rows : List Row) → shown ≡ rows → written ≡ table → SameItems rows table
    → SameItems shown written
these_rows written table shown rows is are same =
    subst (λ (rs : List Row). SameItems rs written) (sym is) (subst (SameItems rows) (sym are) same)

module _ (facts : Facts) (values : AreFactsValues facts) where
  module _ (shown rows : List Row) (is : shown ≡ rows)
      (same : SameItems rows (all_criteria facts)) where
    criteria_same : SameItems shown (map sourced_criterion_row (sourced_criteria facts))
    criteria_same =
        these_rows (map sourced_criterion_row (sourced_criteria facts))
        _ shown rows is (criteria_rows_are facts) same

    pub criteria_read : (found : List SourcedCriterion)
        → AreThose (IsWritten IsSourcedCriterion sourced_criterion_row) shown found
        → SameItems found (sourced_criteria facts)
    criteria_read =
        items_read IsSourcedCriterion sourced_criterion_row shown (sourced_criteria facts)
        (all_criteria_can facts values) criteria_same

    pub criteria_stand : (xs : List SourcedCriterion)
        × EachStandsFor (IsWritten IsSourcedCriterion sourced_criterion_row) shown xs
    criteria_stand =
        they_stand IsSourcedCriterion sourced_criterion_row shown (sourced_criteria facts)
        (all_criteria_can facts values) criteria_same

  module _ (plain : All IsPlain (sourced_entries facts)) (shown rows : List Row) (is : shown ≡ rows)
      (same : SameItems rows (all_entries facts)) where
    entries_same : SameItems shown (map entry_row (sourced_entries facts))
    entries_same = these_rows (map entry_row (sourced_entries facts)) _ shown rows is (entry_rows_are facts) same

    pub entries_read : (found : List HeldEntry)
        → AreThose (IsWritten IsRowEntry entry_row) shown found → SameItems found (sourced_entries facts)
    entries_read =
        items_read IsRowEntry entry_row shown (sourced_entries facts) (all_entries_can facts values plain) entries_same

    pub entries_stand : (xs : List HeldEntry)
        × EachStandsFor (IsWritten IsRowEntry entry_row) shown xs
    entries_stand =
        they_stand IsRowEntry entry_row shown (sourced_entries facts) (all_entries_can facts values plain) entries_same

  module _ (shown rows : List Row) (is : shown ≡ rows)
      (same : SameItems rows (map (λ (p : HeldPeer). peer_row p.settings) facts.peers)) where
    settings_same : SameItems shown (map peer_row (map settings_of facts.peers))
    settings_same =
        these_rows (map peer_row (map settings_of facts.peers))
        _ shown rows is (peer_rows_are facts.peers) same

    pub settings_read : (found : List PeerSettings)
        → AreThose (IsWritten IsPeerSettings peer_row) shown found → SameItems found (map settings_of facts.peers)
    settings_read =
        items_read IsPeerSettings peer_row shown (map settings_of facts.peers)
        (all_settings_can facts values) settings_same

    pub settings_stand : (xs : List PeerSettings)
        × EachStandsFor (IsWritten IsPeerSettings peer_row) shown xs
    settings_stand =
        they_stand IsPeerSettings peer_row shown (map settings_of facts.peers)
        (all_settings_can facts values) settings_same

  module _ (shown rows : List Row) (is : shown ≡ rows)
      (same : SameItems rows (flat_map package_rows facts.publishers)) where
    records_same : SameItems shown (map filed_publisher_row (flat_map filed_records facts.publishers))
    records_same =
        these_rows (map filed_publisher_row (flat_map filed_records facts.publishers))
        _ shown rows is (publisher_rows_are facts.publishers) same

    pub records_read : (found : List (WithKey Name Publisher))
        → AreThose (IsWritten IsFiledPublisher filed_publisher_row) shown found
        → SameItems found (flat_map filed_records facts.publishers)
    records_read =
        items_read IsFiledPublisher filed_publisher_row shown (flat_map filed_records facts.publishers)
        (all_records_can facts values) records_same

    pub records_stand : (xs : List (WithKey Name Publisher))
        × EachStandsFor (IsWritten IsFiledPublisher filed_publisher_row) shown xs
    records_stand =
        they_stand IsFiledPublisher filed_publisher_row shown (flat_map filed_records facts.publishers)
        (all_records_can facts values) records_same

-- facts are those of their parts
pub same_facts : (facts : Facts) {criteria : Criteria} {entries : List HeldEntry} {peers : List HeldPeer}
    {publishers : List PackagePublishers} {today : Option DayValue} → criteria ≡ facts.criteria
    → entries ≡ facts.entries → peers ≡ facts.peers → publishers ≡ facts.publishers → today ≡ facts.today
    → ◌≡◌ {A = Facts}
    (record { criteria = criteria; entries = entries; peers = peers; publishers = publishers; today = today }) facts
same_facts facts a b c d e =
    λ i. record { criteria = a i; entries = b i; peers = c i; publishers = d i; today = e i }
