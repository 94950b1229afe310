-- What an edit of facts makes of the rows of criteria, entries, peers and publishers.
use Rattle.std.proofs.Common.{◌≡◌, ◌≢◌, ◌⊎◌, ℕ, pos, inl, inr, true, List, [], ◌++◌, Bool, arith, map, refl}
use Rattle.std.proofs.Common.{sym, ap, subst, ◌∙◌, is_some, Option, Some, None}
use Rattle.std.specs.List.{AllPairs, flat_map, slice_get}
use Rattle.std.specs.Ordering.{nat_cmp}
use Rattle.std.specs.Cmp.Lexicographic.{slice_cmp}
use Rattle.std.proofs.lemmas.Cmp.{nat_list_cmp_total}
use Rattle.vet_base.specs.FurtherCriteria.{further}
use Rattle.vet_base.specs.Items.{IsIn, NamedOnce}
use Rattle.vet_base.specs.Keyed as keyed
use Rattle.vet_base.specs.Keyed.{IsByKey, with_item}
use Rattle.vet_base.specs.Words.{Name}
use Rattle.vet_base.specs.declared.keyed.KeyedEdit.{KeyedEdit}
use Rattle.vet_base.proofs.ItemLemmas.{in_append, in_back, in_front, in_map, map_in}
use Rattle.vet_base.proofs.Rising.{only_equal}
use Rattle.vet_entries.specs.declared.entry.Source.TheVariants.{Own, Peer}
use Rattle.vet_entries.specs.declared.facts.Edit.{Edit}
use Rattle.vet_entries.specs.declared.facts.Edit.TheVariants as edit
use Rattle.vet_entries.specs.declared.facts.HeldEntry.{HeldEntry}
use Rattle.vet_entries.specs.declared.held_peer.HeldPeer.{HeldPeer}
use Rattle.vet_entries.specs.Facts.{Facts, Fits, Room, edited}
use Rattle.vet_entries.specs.HeldPeer.{holding_or_none, peer_name, peer_of, with_content_of, with_peer}
use Rattle.vet_entries.specs.PublisherRecords.{package_of}
use Rattle.vet_item_rows.specs.Columns.{own_peer}
use Rattle.vet_item_rows.specs.EntryRows.{all_entries, entry_row, peer_entries}
use Rattle.vet_rows.specs.FactsRows.{fact_exchanges, own_entry}
use Rattle.vet_rows.specs.KeyedItems.{added_item, removed_item, rows_if}
use Rattle.vet_tables.specs.Cells.{Row, same_key}
use Rattle.vet_tables.specs.Forms.{form_of}
use Rattle.vet_tables.specs.declared.table_name.FactsTable.TheVariants.{Entries}
use Rattle.vet_tables.specs.declared.table_name.TableName.TheVariants as table
use Rattle.vet_rows.proofs.ExchangeParts.{Leads, removed_by}
use Rattle.vet_rows.proofs.Exchanges.{AreRowsOf, IsExchange, alike, gone_of, of_items, stays}
use Rattle.vet_rows.proofs.KeyedExchanges.{IsOneForOne, edit_is, found_in, put_is, take_is, with_is}
use Rattle.vet_rows.proofs.ListEdits.{flat_in, in_flat}
use Rattle.vet_rows.proofs.RowViews.{flat_rows, mapped_rows, same_rows}
use Rattle.vet_rows.proofs.FitFacts.{entries_fit}
use Rattle.vet_rows.proofs.SameKeys.{own_key, same_number}

-- ---- facts whose rows have keys

-- an entry is held, one's own or of a peer
abbrev pub IsHeldIn : HeldEntry → Facts → Type 0
IsHeldIn h facts = IsIn h facts.entries ⊎ ((p : HeldPeer) × (IsIn p facts.peers × IsIn h p.content.entries))

-- what rows of facts rest on
pub record HaveKeys (facts : Facts) : Type 0 where
  pub peers : IsByKey (slice_cmp nat_cmp) peer_name facts.peers
  pub named : (p : HeldPeer) → IsIn p facts.peers → peer_name p ≡ own_peer → ⊥
  pub criteria : NamedOnce (λ c. c.name) (further facts.criteria)
  pub of_peers : (p : HeldPeer) → IsIn p facts.peers → NamedOnce (λ c. c.name) (further p.content.table)
  pub numbers : AllPairs (λ (g h : HeldEntry). g.number ≢ h.number) facts.entries
  pub once : (g h : HeldEntry) → IsHeldIn g facts → IsHeldIn h facts → g.number ≡ h.number → g ≡ h
  pub own : (h : HeldEntry) → IsIn h facts.entries → h.entry.source ≡ Own
  pub theirs : (p : HeldPeer) (h : HeldEntry) → IsIn p facts.peers → IsIn h p.content.entries
      → h.entry.source ≡ Peer p.settings.name
  pub packages : IsByKey (slice_cmp nat_cmp) package_of facts.publishers

-- ---- peers

pub peer_edit : (change : KeyedEdit HeldPeer) (facts : Facts) (room : Room) → HaveKeys facts
    → Fits (edit.Peer change) (record { content = facts; room = room })
    → IsOneForOne peer_name (removed_item change facts.peers) (added_item change) facts.peers
    (keyed.edited change facts.peers)
peer_edit change facts room k fits =
    edit_is (slice_cmp nat_cmp) nat_list_cmp_total only_equal peer_name change
    (record { items = facts.peers; room = room.peers }) k.peers fits

-- a peer that is held, in place of which another of its name is put
module _ (peers : List HeldPeer) (up : IsByKey (slice_cmp nat_cmp) peer_name peers) where
  pub put_for : (name : Name) (p q : HeldPeer) → peer_of peers name ≡ Some p → peer_name q ≡ name
      → IsOneForOne peer_name (Some p) (Some q) peers (with_peer q peers)
  put_for name p q at is =
      subst (λ o. IsOneForOne peer_name o (Some q) peers (with_peer q peers)) (ap (peer_of peers) is ∙ at)
      (with_is (slice_cmp nat_cmp) nat_list_cmp_total only_equal peer_name peers q up)

  pub name_of : (name : Name) (p : HeldPeer) → peer_of peers name ≡ Some p → peer_name p ≡ name
  name_of name p at = (found_in (slice_cmp nat_cmp) nat_list_cmp_total only_equal peer_name peers name p at).1

-- ---- the rows of entries

abbrev same_entry : Row → Row → Bool
same_entry = same_key (form_of (table.Facts Entries))

own_keys : (facts : Facts) (r : Row) → IsIn r (all_entries facts) → same_entry r r ≡ true
own_keys facts r i = own_key (table.Facts Entries) r (entries_fit facts r i)

same_pos : (m n : ℕ) → pos m ≡ pos n → m ≡ n
same_pos m n e = cc e

same_held : (g h : HeldEntry) → same_entry (entry_row g) (entry_row h) ≡ true → g.number ≡ h.number
same_held g h e =
    same_pos g.number h.number (same_number (table.Facts Entries) (entry_row g) (entry_row h) e 0 (omega arith))

entry_of : (facts : Facts) (r : Row) → IsIn r (all_entries facts)
    → (h : HeldEntry) × (IsHeldIn h facts × (r ≡ entry_row h))
entry_of facts r i =
    elim (in_append (map entry_row facts.entries) (flat_map peer_entries facts.peers) r i) [
      | inl own ↦ (let at = in_map entry_row facts.entries r own in (at.0, (inl at.1.0, at.1.1)))
      | inr theirs ↦ (let p = in_flat peer_entries facts.peers r theirs in
          let at = in_map entry_row p.0.content.entries r p.1.1 in
          (at.0, (inr (p.0, (p.1.0, at.1.0)), at.1.1)))
    ]

pub entries_keyed : (facts : Facts) → HaveKeys facts → (r s : Row) → IsIn r (all_entries facts)
    → IsIn s (all_entries facts) → same_entry r s ≡ true → r ≡ s
entries_keyed facts k r s i j same =
    let g = entry_of facts r i in
    let h = entry_of facts s j in
    let one = k.once g.0 h.0 g.1.0 h.1.0
    (same_held g.0 h.0 (subst (λ x. same_entry x (entry_row h.0) ≡ true) g.1.1
    (subst (λ x. same_entry r x ≡ true) h.1.1 same))) in
    g.1.1 ∙ ap entry_row one ∙ sym h.1.1

-- an own entry in place of another
own_exchange : (old new : Facts) (gone come : Option HeldEntry) → HaveKeys old → HaveKeys new → old.peers ≡ new.peers
    → IsOneForOne (λ (h : HeldEntry). h.number) gone come old.entries new.entries
    → IsExchange same_entry (rows_if own_entry gone) (rows_if own_entry come) (all_entries old) (all_entries new)
own_exchange old new gone come k l peers is =
    of_items same_entry (λ (h : HeldEntry). h.number) own_entry gone come old.entries new.entries
    (flat_map peer_entries old.peers) (all_entries old) (all_entries new) (own_keys old)
    (mapped_rows entry_row old.entries (flat_map peer_entries old.peers))
    (subst (λ ps. AreRowsOf own_entry new.entries (flat_map peer_entries old.peers)
    (map entry_row new.entries ++ flat_map peer_entries ps)) peers
    (mapped_rows entry_row new.entries (flat_map peer_entries old.peers)))
    is
    (λ g x r s i j a b e. same_held g x (sames g x r s a b e))
    (λ g r s i a j e. (let p = in_flat peer_entries old.peers s j in
    let h = in_map entry_row p.0.content.entries s p.1.1 in
    let one = k.once g h.0 (inl i) (inr (p.0, (p.1.0, h.1.0)))
    (same_held g h.0 (sames g h.0 r s a (inl h.1.1) e)) in
    apart (sym (k.own g i) ∙ ap (λ (x : HeldEntry). x.entry.source) one ∙ k.theirs p.0 h.0 p.1.0 h.1.0)))
    (λ c r s i a j e. entries_keyed new l r s
    (in_front (map entry_row new.entries) (flat_map peer_entries new.peers) r (among c r i a)) j e)
  where
    sames : (g x : HeldEntry) (r s : Row) → IsIn r (own_entry g) → IsIn s (own_entry x) → same_entry r s ≡ true
        → same_entry (entry_row g) (entry_row x) ≡ true
    sames g x r s (inl a) (inl b) e = subst (λ y. same_entry y (entry_row x) ≡ true) a
        (subst (λ y. same_entry r y ≡ true) b e)
    sames g x r s (inl a) (inr none) e = absurd none
    sames g x r s (inr none) b e = absurd none

    apart : {n : Name} → Own ≡ Peer n → ⊥
    apart e = cc e

    among : (c : HeldEntry) (r : Row) → IsIn c new.entries → IsIn r (own_entry c)
        → IsIn r (map entry_row new.entries)
    among c r i (inl a) = subst (λ y. IsIn y (map entry_row new.entries)) (sym a) (map_in entry_row new.entries c i)
    among c r i (inr none) = absurd none

-- a peer in place of another
peer_exchange : (old new : Facts) (gone come : Option HeldPeer) → HaveKeys old → HaveKeys new
    → old.entries ≡ new.entries → IsOneForOne peer_name gone come old.peers new.peers
    → IsExchange same_entry (rows_if peer_entries gone) (rows_if peer_entries come) (all_entries old) (all_entries new)
peer_exchange old new gone come k l entries is =
    of_items same_entry peer_name peer_entries gone come old.peers new.peers (map entry_row old.entries)
    (all_entries old) (all_entries new) (own_keys old) (flat_rows peer_entries old.peers (map entry_row old.entries))
    (subst (λ es. AreRowsOf peer_entries new.peers (map entry_row old.entries)
    (map entry_row es ++ flat_map peer_entries new.peers)) entries
    (flat_rows peer_entries new.peers (map entry_row old.entries)))
    is
    (λ g x r s i j a b e. (let f = in_map entry_row g.content.entries r a in
    let h = in_map entry_row x.content.entries s b in
    let one = k.once f.0 h.0 (inr (g, (i, f.1.0))) (inr (x, (j, h.1.0))) (sames f.0 h.0 r s f.1.1 h.1.1 e) in
    name (sym (k.theirs g f.0 i f.1.0) ∙ ap (λ (y : HeldEntry). y.entry.source) one ∙ k.theirs x h.0 j h.1.0)))
    (λ g r s i a j e. (let f = in_map entry_row g.content.entries r a in
    let h = in_map entry_row old.entries s j in
    let one = k.once f.0 h.0 (inr (g, (i, f.1.0))) (inl h.1.0) (sames f.0 h.0 r s f.1.1 h.1.1 e) in
    apart (sym (k.own h.0 h.1.0) ∙ ap (λ (y : HeldEntry). y.entry.source) (sym one) ∙ k.theirs g f.0 i f.1.0)))
    (λ c r s i a j e. entries_keyed new l r s
    (in_back (map entry_row new.entries) (flat_map peer_entries new.peers) r
    (flat_in peer_entries new.peers c r i a)) j e)
  where
    sames : (g x : HeldEntry) (r s : Row) → r ≡ entry_row g → s ≡ entry_row x → same_entry r s ≡ true
        → g.number ≡ x.number
    sames g x r s a b e = same_held g x (subst (λ y. same_entry y (entry_row x) ≡ true) a
        (subst (λ y. same_entry r y ≡ true) b e))

    name : {m n : Name} → Peer m ≡ Peer n → m ≡ n
    name {m} {n} e = cc e

    apart : {n : Name} → Own ≡ Peer n → ⊥
    apart e = cc e

unchanged : (old new : Facts) → old.entries ≡ new.entries → old.peers ≡ new.peers
    → IsExchange same_entry [] [] (all_entries old) (all_entries new)
unchanged old new entries peers =
    subst (λ es. IsExchange same_entry [] [] (all_entries old) (map entry_row es ++ flat_map peer_entries new.peers))
    entries
    (subst (λ ps. IsExchange same_entry [] [] (all_entries old)
    (map entry_row old.entries ++ flat_map peer_entries ps)) peers
    (stays same_entry (all_entries old)))

-- ---- what an edit makes of each table

module _ (old : Facts) (room : Room) (k : HaveKeys old) where
  pub entries_become : (e : Edit) → Fits e (record { content = old; room = room }) → HaveKeys (edited e old)
      → Leads (table.Facts Entries) (fact_exchanges e old) (all_entries old) (all_entries (edited e old))
  entries_become (edit.Criteria table) fits l = unchanged old (edited (edit.Criteria table) old) refl refl
  entries_become (edit.Insert place held) fits l =
      own_exchange old (edited (edit.Insert place held) old) None (Some held) k l refl
      (put_is (λ (h : HeldEntry). h.number) old.entries place held)
  entries_become (edit.Remove place) fits l =
      own_exchange old (edited (edit.Remove place) old) (slice_get old.entries place) None k l refl
      (take_is (λ (h : HeldEntry). h.number) old.entries place k.numbers)
  entries_become (edit.Peer change) fits l =
      peer_exchange old (edited (edit.Peer change) old) (removed_item change old.peers) (added_item change) k l refl
      (peer_edit change old room k fits)
  entries_become (edit.Settings settings) fits l = by (peer_of old.peers settings.name) refl fits l
    where
      after : Option HeldPeer → Facts
      after found =
          record old { peers = with_peer (record { settings = settings; content = holding_or_none found }) old.peers }

      by : (found : Option HeldPeer) → peer_of old.peers settings.name ≡ found → is_some found ≡ true
          → HaveKeys (after found) → IsExchange same_entry [] [] (all_entries old) (all_entries (after found))
      by (Some p) at there m =
          alike same_entry (all_entries old) (all_entries (after (Some p)))
          (same_rows peer_name peer_entries p (record { settings = settings; content = p.content }) old.peers
          (after (Some p)).peers (map entry_row old.entries) (all_entries old) (all_entries (after (Some p)))
          (flat_rows peer_entries old.peers (map entry_row old.entries))
          (flat_rows peer_entries (after (Some p)).peers (map entry_row old.entries))
          (put_for old.peers k.peers settings.name p (record { settings = settings; content = p.content }) at refl)
          refl)
      by None at there m = absurd (cc there)
  entries_become (edit.Content name content) fits l = by (peer_of old.peers name) refl fits.0 l
    where
      after : Option HeldPeer → Facts
      after found = record old { peers = with_content_of found content old.peers }

      by : (found : Option HeldPeer) → peer_of old.peers name ≡ found → is_some found ≡ true → HaveKeys (after found)
          → IsExchange same_entry (rows_if peer_entries found) (map entry_row content.entries) (all_entries old)
          (all_entries (after found))
      by (Some p) at there m =
          peer_exchange old (after (Some p)) (Some p) (Some (record p { content = content })) k m refl
          (put_for old.peers k.peers name p (record p { content = content }) at (name_of old.peers k.peers name p at))
      by None at there m = absurd (cc there)
  entries_become (edit.Publishers change) fits l = unchanged old (edited (edit.Publishers change) old) refl refl
  entries_become (edit.Today day) fits l = unchanged old (edited (edit.Today day) old) refl refl

  -- the rows that go are there
  pub entries_there : (e : Edit) → Fits e (record { content = old; room = room }) → (r : Row)
      → IsIn r (removed_by (fact_exchanges e old) (table.Facts Entries)) → IsIn r (all_entries old)
  entries_there (edit.Criteria table) fits r i = absurd i
  entries_there (edit.Insert place held) fits r i = absurd i
  entries_there (edit.Remove place) fits r i =
      gone_of own_entry (slice_get old.entries place) old.entries (flat_map peer_entries old.peers) (all_entries old)
      (mapped_rows entry_row old.entries (flat_map peer_entries old.peers))
      (take_is (λ (h : HeldEntry). h.number) old.entries place k.numbers).gone_from r i
  entries_there (edit.Peer change) fits r i =
      gone_of peer_entries (removed_item change old.peers) old.peers (map entry_row old.entries) (all_entries old)
      (flat_rows peer_entries old.peers (map entry_row old.entries)) (peer_edit change old room k fits).gone_from r i
  entries_there (edit.Settings settings) fits r i = absurd i
  entries_there (edit.Content name content) fits r i =
      gone_of peer_entries (peer_of old.peers name) old.peers (map entry_row old.entries) (all_entries old)
      (flat_rows peer_entries old.peers (map entry_row old.entries))
      (λ p at. (found_in (slice_cmp nat_cmp) nat_list_cmp_total only_equal peer_name old.peers name p at).0) r i
  entries_there (edit.Publishers change) fits r i = absurd i
  entries_there (edit.Today day) fits r i = absurd i
