-- What holds of texts of keys before an edit, and of what comes by it, holds after it.
use Rattle.std.proofs.Common.{◌≡◌, inl, inr, List, refl, sym, ap, subst, ◌∙◌, Option, Some, None}
use Rattle.std.specs.Ordering.{nat_cmp}
use Rattle.std.specs.Cmp.Lexicographic.{slice_cmp}
use Rattle.std.proofs.lemmas.Cmp.{nat_list_cmp_total}
use Rattle.vet_base.specs.Items.{IsIn}
use Rattle.vet_base.specs.Keyed.{edited}
use Rattle.vet_base.specs.declared.keyed.KeyedEdit.{KeyedEdit}
use Rattle.vet_base.specs.declared.keyed.KeyedEdit.TheVariants as edit
use Rattle.vet_base.proofs.Rising.{only_equal}
use Rattle.vet_entries.specs.declared.facts.Edit.{Edit}
use Rattle.vet_entries.specs.declared.facts.Edit.TheVariants as facts_edit
use Rattle.vet_entries.specs.declared.held_peer.HeldPeer.{HeldPeer}
use Rattle.vet_entries.specs.Facts as facts
use Rattle.vet_entries.specs.Facts.{Facts}
use Rattle.vet_entries.specs.HeldPeer.{holding_or_none, peer_name, peer_of, with_content_of, with_peer}
use Rattle.vet_item_rows.specs.Columns.{own_peer}
use Rattle.vet_rows.specs.KeyTexts.{ArePeersNamed, AddedPeerIsNamed}
use Rattle.vet_rows.specs.KeyedItems.{added_item}
use Rattle.vet_rows.proofs.KeyedExchanges.{found_in, in_with}
use Rattle.vet_rows.proofs.ListEdits.{in_insert, in_remove, in_set}

pub of_edited : {E : Type 0} (P : E → Type 0) (change : KeyedEdit E) (items : List E) → ((x : E) → IsIn x items → P x)
    → ((x : E) → added_item change ≡ Some x → P x) → (x : E) → IsIn x (edited change items) → P x
of_edited P (edit.Put i e) items old new x among = elim (in_insert items i e x among) [
  | inl same ↦ subst P (sym same) (new e refl)
  | inr there ↦ old x there
]
of_edited P (edit.Take i) items old new x among = old x (in_remove items i x among)
of_edited P (edit.Swap i e) items old new x among = elim (in_set items i e x among) [
  | inl same ↦ subst P (sym same) (new e refl)
  | inr there ↦ old x there
]

-- peers with one more, or with another in place of the one of its name
put_named : (peers : List HeldPeer) (p : HeldPeer) → ArePeersNamed peers → (peer_name p ≡ own_peer → ⊥)
    → ArePeersNamed (with_peer p peers)
put_named peers p old new x among =
    elim (in_with (slice_cmp nat_cmp) nat_list_cmp_total only_equal peer_name peers p x among) [
      | inl same ↦ λ e. new (ap peer_name (sym same) ∙ e)
      | inr there ↦ old x there.0
    ]

pub peers_after : (e : Edit) (old : Facts) → ArePeersNamed old.peers → AddedPeerIsNamed e
    → ArePeersNamed (facts.edited e old).peers
peers_after (facts_edit.Criteria table) old named new = named
peers_after (facts_edit.Insert place held) old named new = named
peers_after (facts_edit.Remove place) old named new = named
peers_after (facts_edit.Peer change) old named new =
    of_edited (λ (p : HeldPeer). peer_name p ≡ own_peer → ⊥) change old.peers named new
peers_after (facts_edit.Settings settings) old named new =
    put_named old.peers
    (record { settings = settings; content = holding_or_none (peer_of old.peers settings.name) }) named new
peers_after (facts_edit.Content name content) old named new = by (peer_of old.peers name) refl
  where
    by : (found : Option HeldPeer) → peer_of old.peers name ≡ found
        → ArePeersNamed (with_content_of found content old.peers)
    by (Some p) at =
        put_named old.peers (record p { content = content }) named
        (named p (found_in (slice_cmp nat_cmp) nat_list_cmp_total only_equal peer_name old.peers name p at).0)
    by None at = named
peers_after (facts_edit.Publishers change) old named new = named
peers_after (facts_edit.Today day) old named new = named
