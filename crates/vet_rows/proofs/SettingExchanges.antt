-- What an edit of facts makes of the rows of criteria, peers and publishers.
use Rattle.std.proofs.Common.{◌≡◌, ◌⊎◌, inl, inr, true, List, [], ◌∷◌, ◌++◌, map, refl, sym, ap, subst, ◌∙◌}
use Rattle.std.proofs.Common.{is_some, Bool, Option, Some, None, arith}
use Rattle.std.specs.List.{flat_map}
use Rattle.std.specs.Ordering.{nat_cmp}
use Rattle.std.specs.Cmp.Lexicographic.{slice_cmp}
use Rattle.std.proofs.lemmas.Cmp.{nat_list_cmp_total}
use Rattle.vet_base.specs.declared.criterion.Criterion.{Criterion}
use Rattle.vet_base.specs.Criteria.{Criteria}
use Rattle.vet_base.specs.FurtherCriteria.{further}
use Rattle.vet_base.specs.Items.{IsIn, NamedOnce}
use Rattle.vet_base.specs.Keyed as keyed
use Rattle.vet_base.specs.Words.{Name}
use Rattle.vet_base.proofs.ItemLemmas.{in_append, in_back, in_front, in_map}
use Rattle.vet_base.proofs.KeyedItems.{of_one_key}
use Rattle.vet_base.proofs.Rising.{only_equal}
use Rattle.vet_entries.specs.declared.facts.Edit.{Edit}
use Rattle.vet_entries.specs.declared.facts.Edit.TheVariants as edit
use Rattle.vet_entries.specs.declared.held_peer.HeldPeer.{HeldPeer}
use Rattle.vet_entries.specs.declared.publisher_records.PackagePublishers.{PackagePublishers}
use Rattle.vet_entries.specs.Facts.{Facts, Fits, Room, edited}
use Rattle.vet_entries.specs.HeldPeer.{holding_or_none, peer_name, peer_of, with_content_of, with_peer}
use Rattle.vet_entries.specs.PublisherRecords.{package_of}
use Rattle.vet_item_rows.specs.Columns.{own_peer}
use Rattle.vet_item_rows.specs.EntryRows.{package_rows, publisher_row}
use Rattle.vet_item_rows.specs.SettingRows.{all_criteria, criteria_rows, criterion_row, peer_criteria, peer_row}
use Rattle.vet_rows.specs.FactsRows.{fact_exchanges, the_peer}
use Rattle.vet_rows.specs.KeyedItems.{added_item, removed_item, rows_if}
use Rattle.vet_rows.proofs.ExchangeParts.{Leads, removed_by}
use Rattle.vet_rows.proofs.Exchanges.{AreRowsOf, IsExchange, alike, gone_of, of_items, stays}
use Rattle.vet_rows.proofs.FactsExchanges.{HaveKeys, name_of, peer_edit, put_for}
use Rattle.vet_rows.proofs.KeyedExchanges.{IsOneForOne, edit_is}
use Rattle.vet_rows.proofs.ListEdits.{flat_in, in_flat}
use Rattle.vet_rows.proofs.RowViews.{flat_rows, front_rows, only_flat, only_mapped, same_rows, told_once}
use Rattle.vet_rows.proofs.FitFacts.{criteria_fit, peers_fit, publishers_fit}
use Rattle.vet_rows.proofs.SameKeys.{own_key, same_text, same_whole, text_at}
use Rattle.vet_tables.specs.Cells.{IsRowOf, Row, same_key}
use Rattle.vet_tables.specs.Forms.{form_of}
use Rattle.vet_tables.specs.declared.table_name.FactsTable.TheVariants.{Criteria as CriteriaTable, Peers, Publishers}
use Rattle.vet_tables.specs.declared.table_name.TableName.TheVariants as table

abbrev same_criterion : Row → Row → Bool
same_criterion = same_key (form_of (table.Facts CriteriaTable))

abbrev same_peer : Row → Row → Bool
same_peer = same_key (form_of (table.Facts Peers))

abbrev same_publisher : Row → Row → Bool
same_publisher = same_key (form_of (table.Facts Publishers))

-- ---- the rows of criteria

criterion_same : (r s : Row) → same_criterion r s ≡ true → (text_at 0 r ≡ text_at 0 s) × (text_at 1 r ≡ text_at 1 s)
criterion_same r s e =
    let text = same_text (table.Facts CriteriaTable) r s e in (text 0 (omega arith), text 1 (omega arith))

own_criteria : (facts : Facts) (r : Row) → IsIn r (all_criteria facts) → same_criterion r r ≡ true
own_criteria facts r i = own_key (table.Facts CriteriaTable) r (criteria_fit facts r i)

-- a row of a table has the table's peer, and the name of a criterion of the table
abbrev IsOfTable : Name → Criteria → Row → Type 0
IsOfTable peer table r = (c : Criterion) × (IsIn c (further table) × (r ≡ criterion_row peer c))

of_table : (peer : Name) (table : Criteria) (r : Row) → IsIn r (criteria_rows peer table)
    → IsOfTable peer table r
of_table peer table r i = in_map (criterion_row peer) (further table) r i

peer_is : (peer : Name) (table : Criteria) (r : Row) → IsIn r (criteria_rows peer table) → text_at 0 r ≡ peer
peer_is peer table r i = ap (text_at 0) (of_table peer table r i).1.1

-- rows of one table that have the same name are the same
in_table : (peer other : Name) (table : Criteria) → NamedOnce (λ c. c.name) (further table) → (r s : Row)
    → IsIn r (criteria_rows peer table) → IsIn s (criteria_rows other table) → same_criterion r s ≡ true → r ≡ s
in_table peer other table once r s i j e =
    let c = of_table peer table r i in
    let d = of_table other table s j in
    let cols = criterion_same r s e in
    let names : c.0.name ≡ d.0.name =
    ap (text_at 1) (sym c.1.1) ∙ cols.1 ∙ ap (text_at 1) d.1.1 in
    let peers : peer ≡ other =
    ap (text_at 0) (sym c.1.1) ∙ cols.0 ∙ ap (text_at 0) d.1.1 in
    let one = told_once (λ (x : Criterion). x.name) (further table) once c.0 d.0 c.1.0 d.1.0 names in
    c.1.1 ∙ (λ n. criterion_row (peers n) (one n)) ∙ sym d.1.1

-- a row of one's own criteria, and one of a peer's, have different keys
not_peers : (facts : Facts) → HaveKeys facts → (table : Criteria) (r s : Row)
    → IsIn r (criteria_rows own_peer table) → (p : HeldPeer) → IsIn p facts.peers → IsIn s (peer_criteria p)
    → text_at 0 r ≡ text_at 0 s → ⊥
not_peers facts k table r s i p j l e =
    k.named p j
    (sym (peer_is p.settings.name p.content.table s l) ∙ sym e ∙ peer_is own_peer table r i)

pub criteria_keyed : (facts : Facts) → HaveKeys facts → (r s : Row) → IsIn r (all_criteria facts)
    → IsIn s (all_criteria facts) → same_criterion r s ≡ true → r ≡ s
criteria_keyed facts k r s i j e =
    by (in_append (criteria_rows own_peer facts.criteria) (flat_map peer_criteria facts.peers) r i)
    (in_append (criteria_rows own_peer facts.criteria) (flat_map peer_criteria facts.peers) s j)
  where
    own : List Row
    own = criteria_rows own_peer facts.criteria

    theirs : List Row
    theirs = flat_map peer_criteria facts.peers

    by : IsIn r own ⊎ IsIn r theirs → IsIn s own ⊎ IsIn s theirs → r ≡ s
    by (inl a) (inl b) = in_table own_peer own_peer facts.criteria k.criteria r s a b e
    by (inl a) (inr b) = (let p = in_flat peer_criteria facts.peers s b in
        absurd (not_peers facts k facts.criteria r s a p.0 p.1.0 p.1.1 (criterion_same r s e).0))
    by (inr a) (inl b) = (let p = in_flat peer_criteria facts.peers r a in
        absurd (not_peers facts k facts.criteria s r b p.0 p.1.0 p.1.1 (sym (criterion_same r s e).0)))
    by (inr a) (inr b) =
        let p = in_flat peer_criteria facts.peers r a in
        let q = in_flat peer_criteria facts.peers s b in
        let names : peer_name p.0 ≡ peer_name q.0 =
        sym (peer_is (peer_name p.0) p.0.content.table r p.1.1) ∙ (criterion_same r s e).0
        ∙ peer_is (peer_name q.0) q.0.content.table s q.1.1 in
        let one = of_one_key (slice_cmp nat_cmp) nat_list_cmp_total only_equal peer_name facts.peers k.peers p.0 q.0
        p.1.0 q.1.0 names in
        in_table (peer_name p.0) (peer_name q.0) q.0.content.table (k.of_peers q.0 q.1.0) r s
        (subst (λ x. IsIn r (criteria_rows (peer_name p.0) x.content.table)) one p.1.1) q.1.1 e

-- one's own table in place of another
table_exchange : (old new : Facts) → HaveKeys old → HaveKeys new → old.peers ≡ new.peers
    → IsExchange same_criterion (criteria_rows own_peer old.criteria) (criteria_rows own_peer new.criteria)
    (all_criteria old) (all_criteria new)
table_exchange old new k l peers =
    of_items same_criterion (λ (t : Criteria). own_peer) (criteria_rows own_peer) (Some old.criteria)
    (Some new.criteria) (old.criteria ∷ []) (new.criteria ∷ []) (flat_map peer_criteria old.peers) (all_criteria old)
    (all_criteria new) (own_criteria old)
    (front_rows (criteria_rows own_peer) old.criteria (flat_map peer_criteria old.peers))
    (subst (λ ps. AreRowsOf (criteria_rows own_peer) (new.criteria ∷ []) (flat_map peer_criteria old.peers)
    (criteria_rows own_peer new.criteria ++ flat_map peer_criteria ps)) peers
    (front_rows (criteria_rows own_peer) new.criteria (flat_map peer_criteria old.peers)))
    (record {
      come_in = λ t e. (let same : t ≡ new.criteria = cc e in inl same);
      gone_from = λ t e. (let same : t ≡ old.criteria = cc e in inl same);
      new_from = λ t i. elim i [ inl e ↦ inl (ap Some (sym e)) | inr none ↦ absurd none ];
      old_to = λ t i. elim i [ inl e ↦ inr (ap Some (sym e)) | inr none ↦ absurd none ];
    })
    (λ g x r s i j a b e. refl)
    (λ g r s i a b e. (let p = in_flat peer_criteria old.peers s b in
    not_peers old k g r s a p.0 p.1.0 p.1.1 (criterion_same r s e).0))
    (λ c r s i a j e. criteria_keyed new l r s (among c r i a) j e)
  where
    among : (c : Criteria) (r : Row) → IsIn c (new.criteria ∷ []) → IsIn r (criteria_rows own_peer c)
        → IsIn r (all_criteria new)
    among c r (inl e) a =
        in_front (criteria_rows own_peer new.criteria) (flat_map peer_criteria new.peers) r
        (subst (λ t. IsIn r (criteria_rows own_peer t)) e a)
    among c r (inr none) a = absurd none

-- a peer in place of another
peer_tables : (old new : Facts) (gone come : Option HeldPeer) → HaveKeys old → HaveKeys new
    → old.criteria ≡ new.criteria → IsOneForOne peer_name gone come old.peers new.peers
    → IsExchange same_criterion (rows_if peer_criteria gone) (rows_if peer_criteria come) (all_criteria old)
    (all_criteria new)
peer_tables old new gone come k l criteria is =
    of_items same_criterion peer_name peer_criteria gone come old.peers new.peers
    (criteria_rows own_peer old.criteria) (all_criteria old) (all_criteria new) (own_criteria old)
    (flat_rows peer_criteria old.peers (criteria_rows own_peer old.criteria))
    (subst (λ t. AreRowsOf peer_criteria new.peers (criteria_rows own_peer old.criteria)
    (criteria_rows own_peer t ++ flat_map peer_criteria new.peers)) criteria
    (flat_rows peer_criteria new.peers (criteria_rows own_peer old.criteria)))
    is
    (λ g x r s i j a b e. sym (peer_is (peer_name g) g.content.table r a) ∙ (criterion_same r s e).0
    ∙ peer_is (peer_name x) x.content.table s b)
    (λ g r s i a b e. not_peers old k old.criteria s r b g i a (sym (criterion_same r s e).0))
    (λ c r s i a j e. criteria_keyed new l r s
    (in_back (criteria_rows own_peer new.criteria) (flat_map peer_criteria new.peers) r
    (flat_in peer_criteria new.peers c r i a)) j e)

same_tables : (old new : Facts) → old.criteria ≡ new.criteria → old.peers ≡ new.peers
    → IsExchange same_criterion [] [] (all_criteria old) (all_criteria new)
same_tables old new criteria peers =
    subst (λ t. IsExchange same_criterion [] [] (all_criteria old)
    (criteria_rows own_peer t ++ flat_map peer_criteria new.peers)) criteria
    (subst (λ ps. IsExchange same_criterion [] [] (all_criteria old)
    (criteria_rows own_peer old.criteria ++ flat_map peer_criteria ps)) peers
    (stays same_criterion (all_criteria old)))

-- ---- the rows of peers

abbrev peer_rows : List HeldPeer → List Row
peer_rows peers = map (λ (peer : HeldPeer). peer_row peer.settings) peers

pub peers_keyed : (facts : Facts) → HaveKeys facts → (r s : Row) → IsIn r (peer_rows facts.peers)
    → IsIn s (peer_rows facts.peers) → same_peer r s ≡ true → r ≡ s
peers_keyed facts k r s i j e =
    let p = in_map (λ (peer : HeldPeer). peer_row peer.settings) facts.peers r i in
    let q = in_map (λ (peer : HeldPeer). peer_row peer.settings) facts.peers s j in
    let names = ap (text_at 0) (sym p.1.1) ∙ same_text (table.Facts Peers) r s e 0 (omega arith)
    ∙ ap (text_at 0) q.1.1 in
    p.1.1
    ∙ ap (λ (x : HeldPeer). peer_row x.settings)
    (of_one_key (slice_cmp nat_cmp) nat_list_cmp_total only_equal peer_name facts.peers k.peers p.0 q.0 p.1.0 q.1.0
    names)
    ∙ sym q.1.1

settings_exchange : (old new : Facts) (gone come : Option HeldPeer) → HaveKeys new
    → IsOneForOne peer_name gone come old.peers new.peers
    → IsExchange same_peer (rows_if the_peer gone) (rows_if the_peer come) (peer_rows old.peers) (peer_rows new.peers)
settings_exchange old new gone come l is =
    of_items same_peer peer_name the_peer gone come old.peers new.peers [] (peer_rows old.peers)
    (peer_rows new.peers) (λ r i. own_key (table.Facts Peers) r (peers_fit old.peers r i))
    (only_mapped (λ (peer : HeldPeer). peer_row peer.settings) old.peers)
    (only_mapped (λ (peer : HeldPeer). peer_row peer.settings) new.peers) is
    (λ g x r s i j a b e. named g x r s a b e)
    (λ g r s i a none e. none)
    (λ c r s i a j e. peers_keyed new l r s
    ((only_mapped (λ (peer : HeldPeer). peer_row peer.settings) new.peers).item_in c r i a) j e)
  where
    named : (g x : HeldPeer) (r s : Row) → IsIn r (the_peer g) → IsIn s (the_peer x) → same_peer r s ≡ true
        → peer_name g ≡ peer_name x
    named g x r s (inl a) (inl b) e =
        ap (text_at 0) (sym a) ∙ same_text (table.Facts Peers) r s e 0 (omega arith) ∙ ap (text_at 0) b
    named g x r s (inl a) (inr none) e = absurd none
    named g x r s (inr none) b e = absurd none

-- ---- the rows of publishers

package_is : (p : PackagePublishers) (r : Row) → IsIn r (package_rows p) → text_at 0 r ≡ p.«package»
package_is p r i = ap (text_at 0) (in_map (publisher_row p.«package») p.publishers r i).1.1

-- all columns of a publisher's row are its key
pub publisher_same : (r s : Row) → IsRowOf (form_of (table.Facts Publishers)) r
    → IsRowOf (form_of (table.Facts Publishers)) s
    → same_publisher r s ≡ true → r ≡ s
publisher_same = same_whole (table.Facts Publishers) refl

pub publishers_keyed : (packages : List PackagePublishers) (r s : Row) → IsIn r (flat_map package_rows packages)
    → IsIn s (flat_map package_rows packages) → same_publisher r s ≡ true → r ≡ s
publishers_keyed packages r s i j =
    publisher_same r s (publishers_fit packages r i) (publishers_fit packages s j)

-- ---- what an edit makes of each table

module _ (old : Facts) (room : Room) (k : HaveKeys old) where
  pub criteria_become : (e : Edit) → Fits e (record { content = old; room = room }) → HaveKeys (edited e old)
      → Leads (table.Facts CriteriaTable) (fact_exchanges e old) (all_criteria old) (all_criteria (edited e old))
  criteria_become (edit.Criteria table) fits l = table_exchange old (edited (edit.Criteria table) old) k l refl
  criteria_become (edit.Insert place held) fits l = same_tables old (edited (edit.Insert place held) old) refl refl
  criteria_become (edit.Remove place) fits l = same_tables old (edited (edit.Remove place) old) refl refl
  criteria_become (edit.Peer change) fits l =
      peer_tables old (edited (edit.Peer change) old) (removed_item change old.peers) (added_item change) k l refl
      (peer_edit change old room k fits)
  criteria_become (edit.Settings settings) fits l = by (peer_of old.peers settings.name) refl fits
    where
      after : Option HeldPeer → Facts
      after found =
          record old { peers = with_peer (record { settings = settings; content = holding_or_none found }) old.peers }

      by : (found : Option HeldPeer) → peer_of old.peers settings.name ≡ found → is_some found ≡ true
          → IsExchange same_criterion [] [] (all_criteria old) (all_criteria (after found))
      by (Some p) at there =
          alike same_criterion (all_criteria old) (all_criteria (after (Some p)))
          (same_rows peer_name peer_criteria p (record { settings = settings; content = p.content }) old.peers
          (after (Some p)).peers (criteria_rows own_peer old.criteria) (all_criteria old)
          (all_criteria (after (Some p)))
          (flat_rows peer_criteria old.peers (criteria_rows own_peer old.criteria))
          (flat_rows peer_criteria (after (Some p)).peers (criteria_rows own_peer old.criteria))
          (put_for old.peers k.peers settings.name p (record { settings = settings; content = p.content }) at refl)
          (ap (λ n. criteria_rows n p.content.table) (name_of old.peers k.peers settings.name p at)))
      by None at there = absurd (cc there)
  criteria_become (edit.Content name content) fits l = by (peer_of old.peers name) refl fits.0 l
    where
      after : Option HeldPeer → Facts
      after found = record old { peers = with_content_of found content old.peers }

      by : (found : Option HeldPeer) → peer_of old.peers name ≡ found → is_some found ≡ true → HaveKeys (after found)
          → IsExchange same_criterion (rows_if peer_criteria found) (criteria_rows name content.table)
          (all_criteria old) (all_criteria (after found))
      by (Some p) at there m =
          let its = name_of old.peers k.peers name p at in
          subst (λ n. IsExchange same_criterion (peer_criteria p) (criteria_rows n content.table) (all_criteria old)
          (all_criteria (after (Some p)))) its
          (peer_tables old (after (Some p)) (Some p) (Some (record p { content = content })) k m refl
          (put_for old.peers k.peers name p (record p { content = content }) at its))
      by None at there m = absurd (cc there)
  criteria_become (edit.Publishers change) fits l = same_tables old (edited (edit.Publishers change) old) refl refl
  criteria_become (edit.Today day) fits l = same_tables old (edited (edit.Today day) old) refl refl

  pub peers_become : (e : Edit) → Fits e (record { content = old; room = room }) → HaveKeys (edited e old)
      → Leads (table.Facts Peers) (fact_exchanges e old) (peer_rows old.peers) (peer_rows (edited e old).peers)
  peers_become (edit.Criteria table) fits l = stays same_peer (peer_rows old.peers)
  peers_become (edit.Insert place held) fits l = stays same_peer (peer_rows old.peers)
  peers_become (edit.Remove place) fits l = stays same_peer (peer_rows old.peers)
  peers_become (edit.Peer change) fits l =
      settings_exchange old (edited (edit.Peer change) old) (removed_item change old.peers) (added_item change) l
      (peer_edit change old room k fits)
  peers_become (edit.Settings settings) fits l = by (peer_of old.peers settings.name) refl fits l
    where
      after : Option HeldPeer → Facts
      after found =
          record old { peers = with_peer (record { settings = settings; content = holding_or_none found }) old.peers }

      by : (found : Option HeldPeer) → peer_of old.peers settings.name ≡ found → is_some found ≡ true
          → HaveKeys (after found) → IsExchange same_peer (rows_if the_peer found) (peer_row settings ∷ [])
          (peer_rows old.peers) (peer_rows (after found).peers)
      by (Some p) at there m =
          settings_exchange old (after (Some p)) (Some p)
          (Some (record { settings = settings; content = p.content })) m
          (put_for old.peers k.peers settings.name p (record { settings = settings; content = p.content }) at refl)
      by None at there m = absurd (cc there)
  peers_become (edit.Content name content) fits l = by (peer_of old.peers name) refl fits.0
    where
      after : Option HeldPeer → List HeldPeer
      after found = with_content_of found content old.peers

      by : (found : Option HeldPeer) → peer_of old.peers name ≡ found → is_some found ≡ true
          → IsExchange same_peer [] [] (peer_rows old.peers) (peer_rows (after found))
      by (Some p) at there =
          alike same_peer (peer_rows old.peers) (peer_rows (after (Some p)))
          (same_rows peer_name the_peer p (record p { content = content }) old.peers (after (Some p)) []
          (peer_rows old.peers) (peer_rows (after (Some p)))
          (only_mapped (λ (peer : HeldPeer). peer_row peer.settings) old.peers)
          (only_mapped (λ (peer : HeldPeer). peer_row peer.settings) (after (Some p)))
          (put_for old.peers k.peers name p (record p { content = content }) at (name_of old.peers k.peers name p at))
          refl)
      by None at there = absurd (cc there)
  peers_become (edit.Publishers change) fits l = stays same_peer (peer_rows old.peers)
  peers_become (edit.Today day) fits l = stays same_peer (peer_rows old.peers)

  pub publishers_become : (e : Edit) → Fits e (record { content = old; room = room })
      → Leads (table.Facts Publishers) (fact_exchanges e old) (flat_map package_rows old.publishers)
      (flat_map package_rows (edited e old).publishers)
  publishers_become (edit.Criteria table) fits = stays same_publisher (flat_map package_rows old.publishers)
  publishers_become (edit.Insert place held) fits = stays same_publisher (flat_map package_rows old.publishers)
  publishers_become (edit.Remove place) fits = stays same_publisher (flat_map package_rows old.publishers)
  publishers_become (edit.Peer change) fits = stays same_publisher (flat_map package_rows old.publishers)
  publishers_become (edit.Settings settings) fits = stays same_publisher (flat_map package_rows old.publishers)
  publishers_become (edit.Content name content) fits = stays same_publisher (flat_map package_rows old.publishers)
  publishers_become (edit.Publishers change) fits =
      let new = keyed.edited change old.publishers in
      of_items same_publisher package_of package_rows (removed_item change old.publishers) (added_item change)
      old.publishers new [] (flat_map package_rows old.publishers) (flat_map package_rows new)
      (λ r i. own_key (table.Facts Publishers) r (publishers_fit old.publishers r i))
      (only_flat package_rows old.publishers) (only_flat package_rows new)
      (edit_is (slice_cmp nat_cmp) nat_list_cmp_total only_equal package_of change
      (record { items = old.publishers; room = room.packages }) k.packages fits.place)
      (λ g x r s i j a b e. sym (package_is g r a) ∙ same_text (table.Facts Publishers) r s e 0 (omega arith)
      ∙ package_is x s b)
      (λ g r s i a none e. none)
      (λ c r s i a j e. publishers_keyed new r s (flat_in package_rows new c r i a) j e)
  publishers_become (edit.Today day) fits = stays same_publisher (flat_map package_rows old.publishers)

  -- the rows that go are there
  pub publishers_there : (e : Edit) → Fits e (record { content = old; room = room }) → (r : Row)
      → IsIn r (removed_by (fact_exchanges e old) (table.Facts Publishers))
      → IsIn r (flat_map package_rows old.publishers)
  publishers_there (edit.Criteria table) fits r i = absurd i
  publishers_there (edit.Insert place held) fits r i = absurd i
  publishers_there (edit.Remove place) fits r i = absurd i
  publishers_there (edit.Peer change) fits r i = absurd i
  publishers_there (edit.Settings settings) fits r i = absurd i
  publishers_there (edit.Content name content) fits r i = absurd i
  publishers_there (edit.Publishers change) fits r i =
      gone_of package_rows (removed_item change old.publishers) old.publishers [] (flat_map package_rows old.publishers)
      (only_flat package_rows old.publishers)
      (edit_is (slice_cmp nat_cmp) nat_list_cmp_total only_equal package_of change
      (record { items = old.publishers; room = room.packages }) k.packages fits.place).gone_from r i
  publishers_there (edit.Today day) fits r i = absurd i
