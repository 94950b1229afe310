-- The numbers of rows that come are those of the state after.
use Rattle.std.proofs.Common.{◌≡◌, ℕ, inl, true, List, [], ◌∷◌, ◌++◌}
use Rattle.std.proofs.Common.{refl, subst, is_some, Option, Some, None}
use Rattle.std.specs.List.{All, slice_get}
use Rattle.std.specs.Prelude.{slice_set}
use Rattle.std.proofs.lemmas.Option.{slice_get_within}
use Rattle.vet_base.proofs.ItemLemmas.{all_in, in_all, in_back}
use Rattle.vet_desk.specs.declared.change.DeskChange.{DeskChange}
use Rattle.vet_desk.specs.declared.change.DeskChange.TheVariants as desk
use Rattle.vet_desk.specs.declared.review.Review.{Review}
use Rattle.vet_desk.specs.declared.review.ReviewState.{ReviewState}
use Rattle.vet_desk.specs.declared.review.ReviewState.TheVariants.{Finished}
use Rattle.vet_desk.specs.Desk.{DeskState}
use Rattle.vet_desk.specs.DeskView.{desk_changed, with_state_there}
use Rattle.vet_desk.specs.Review.{in_state}
use Rattle.vet_entries.specs.declared.facts.Edit.{Edit}
use Rattle.vet_entries.specs.declared.facts.Edit.TheVariants as edit
use Rattle.vet_entries.specs.declared.held_peer.HeldPeer.{HeldPeer}
use Rattle.vet_entries.specs.Facts.{Facts, Fits, Room, edited}
use Rattle.vet_entries.specs.HeldPeer.{peer_of, with_content_of}
use Rattle.vet_item_rows.specs.Numbers.{EntryFits, PeerFits, ReviewFits}
use Rattle.vet_register.specs.declared.held.HeldEdit.{HeldEdit}
use Rattle.vet_register.specs.declared.held.HeldEdit.TheVariants as held
use Rattle.vet_register.specs.declared.moves.RecordedMove.{RecordedMove}
use Rattle.vet_register.specs.declared.moves.Recording.{Recording}
use Rattle.vet_register.specs.declared.moves.Recording.TheVariants.{Behind, Anew}
use Rattle.vet_register.specs.Changes.{moves_by}
use Rattle.vet_register.specs.Held as holds
use Rattle.vet_register.specs.Held.{HeldRoom, HeldValue, held_with}
use Rattle.vet_rows.specs.AddedNumbers.{AddedEntriesFit, HeldEntriesFit, AddedReviewsFit}
use Rattle.vet_rows.specs.Numbers.{MoveFits}
use Rattle.vet_rows.specs.StandingChanges.{recorded_moves}
use Rattle.vet_rows.proofs.FactsExchanges.{HaveKeys, name_of, peer_edit, put_for}
use Rattle.vet_rows.proofs.ListEdits.{insert_in, new_in_set}

-- ---- entries

module _ (old : Facts) (room : Room) (k : HaveKeys old) where
  entries_come : (e : Edit) → Fits e (record { content = old; room = room })
      → All EntryFits (edited e old).entries → All PeerFits (edited e old).peers → AddedEntriesFit e
  entries_come (edit.Criteria table) fits entries peers = tt
  entries_come (edit.Insert place h) fits entries peers =
      in_all EntryFits (edited (edit.Insert place h) old).entries entries h (insert_in old.entries place h h (inl refl))
  entries_come (edit.Remove place) fits entries peers = tt
  entries_come (edit.Peer change) fits entries peers =
      λ p e. in_all PeerFits (edited (edit.Peer change) old).peers peers p
      ((peer_edit change old room k fits).come_in p e)
  entries_come (edit.Settings settings) fits entries peers = tt
  entries_come (edit.Content name content) fits entries peers = by (peer_of old.peers name) refl fits.0 peers
    where
      by : (found : Option HeldPeer) → peer_of old.peers name ≡ found → is_some found ≡ true
          → All PeerFits (with_content_of found content old.peers) → All EntryFits content.entries
      by (Some p) at there fit =
          in_all PeerFits (with_content_of (Some p) content old.peers) fit (record p { content = content })
          ((put_for old.peers k.peers name p (record p { content = content }) at
          (name_of old.peers k.peers name p at)).come_in (record p { content = content }) refl)
      by None at there fit = absurd (cc there)
  entries_come (edit.Publishers change) fits entries peers = tt
  entries_come (edit.Today day) fits entries peers = tt

pub held_entries_come : (old : HeldValue) (room : HeldRoom) → HaveKeys old.facts → (e : HeldEdit)
    → holds.Fits e (held_with old room) → All EntryFits (holds.edited e old).facts.entries
    → All PeerFits (holds.edited e old).facts.peers → HeldEntriesFit e
held_entries_come old room k (held.Facts e) fits entries peers =
    entries_come old.facts room.facts k e fits entries peers
held_entries_come old room k (held.Policies e) fits entries peers = tt
held_entries_come old room k (held.Projects e) fits entries peers = tt
held_entries_come old room k held.Nothing fits entries peers = tt
held_entries_come old room k (held.Files files) fits entries peers = (entries, peers)

-- ---- reviews

turned_fits : (place : ℕ) (state : ReviewState) (reviews : List Review) (r : Review) (found : Option Review)
    → found ≡ Some r → slice_get reviews place ≡ Some r
    → All ReviewFits (with_state_there found place state reviews) → ReviewFits (in_state state r)
turned_fits place state reviews r None is at fit = absurd (cc is)
turned_fits place state reviews r (Some q) is at fit =
    let same : q ≡ r = cc is in
    subst (λ x. ReviewFits (in_state state x)) same
    (in_all ReviewFits (slice_set reviews place (in_state state q)) fit (in_state state q)
    (new_in_set reviews place (in_state state q) (slice_get_within reviews place r at)))

pub reviews_come : (change : DeskChange) (entry : Option ℕ) (d : DeskState)
    → All ReviewFits (desk_changed change entry d).reviews → AddedReviewsFit change entry d
reviews_come (desk.Join change) entry d fit = tt
reviews_come (desk.Open review) entry d fit =
    in_all ReviewFits (d.reviews ++ review ∷ []) fit review (in_back d.reviews (review ∷ []) review (inl refl))
reviews_come (desk.Turn place state) entry d fit =
    λ r at. turned_fits place state d.reviews r (slice_get d.reviews place) at at fit
reviews_come (desk.Finish place made) None d fit = tt
reviews_come (desk.Finish place made) (Some number) d fit =
    λ r at. turned_fits place (Finished number) d.reviews r (slice_get d.reviews place) at at fit

-- ---- moves

pub moves_come : (recording : Recording) (moves : List RecordedMove) → All MoveFits (moves_by recording moves)
    → All MoveFits (recorded_moves recording)
moves_come (Behind more) moves fit =
    all_in MoveFits more.items (λ m i. in_all MoveFits (moves ++ more.items) fit m (in_back moves more.items m i))
moves_come (Anew counts) moves fit = all_in MoveFits [] (λ m none. absurd none)
