-- Numbers in rows that are added (ours): each has a column.
use Rattle.std.specs.Prelude.{ℕ, ◌≡◌, Option, Some, None}
use Rattle.std.specs.List.{All, slice_get}
use Rattle.vet_desk.specs.declared.change.DeskChange.{DeskChange}
use Rattle.vet_desk.specs.declared.change.DeskChange.TheVariants as desk
use Rattle.vet_desk.specs.declared.review.Review.{Review}
use Rattle.vet_desk.specs.declared.review.ReviewState.{ReviewState}
use Rattle.vet_desk.specs.declared.review.ReviewState.TheVariants.{Finished}
use Rattle.vet_desk.specs.Desk.{DeskState}
use Rattle.vet_desk.specs.Review.{in_state}
use Rattle.vet_entries.specs.declared.facts.Edit.{Edit}
use Rattle.vet_entries.specs.declared.facts.Edit.TheVariants as edit
use Rattle.vet_entries.specs.declared.held_peer.HeldPeer.{HeldPeer}
use Rattle.vet_item_rows.specs.Numbers.{EntryFits, PeerFits, ReviewFits}
use Rattle.vet_register.specs.declared.held.HeldEdit.{HeldEdit}
use Rattle.vet_register.specs.declared.held.HeldEdit.TheVariants as held
use Rattle.vet_register.specs.declared.change.Change.{Change}
use Rattle.vet_register.specs.declared.change.DeskEdit.{DeskEdit}
use Rattle.vet_register.specs.Changes.{changed}
use Rattle.vet_register.specs.State.{State}
use Rattle.vet_rows.specs.KeyedItems.{added_item}
use Rattle.vet_rows.specs.Numbers.{CountsFit, MoveFits, NumbersFit}
use Rattle.vet_rows.specs.StandingChanges.{recorded_moves}

-- of entries, by an edit of facts, and by one of all that is held
abbrev pub AddedEntriesFit : Edit → Type 0
AddedEntriesFit (edit.Insert place entry) = EntryFits entry
AddedEntriesFit (edit.Peer change) = (p : HeldPeer) → added_item change ≡ Some p → PeerFits p
AddedEntriesFit (edit.Content name content) = All EntryFits content.entries
AddedEntriesFit _ = Unit {0}

abbrev pub HeldEntriesFit : HeldEdit → Type 0
HeldEntriesFit (held.Facts change) = AddedEntriesFit change
HeldEntriesFit (held.Files files) =
    All EntryFits files.facts.content.entries × All PeerFits files.facts.content.peers
HeldEntriesFit _ = Unit {0}

-- of the review at a place, in another state
abbrev pub TurnedFits : ℕ → ReviewState → DeskState → Type 0
TurnedFits place state d = (r : Review) → slice_get d.reviews place ≡ Some r → ReviewFits (in_state state r)

-- of reviews, by a change of the desk with the number of an entry
abbrev pub AddedReviewsFit : DeskChange → Option ℕ → DeskState → Type 0
AddedReviewsFit (desk.Join change) entry d = Unit {0}
AddedReviewsFit (desk.Open review) entry d = ReviewFits review
AddedReviewsFit (desk.Turn place state) entry d = TurnedFits place state d
AddedReviewsFit (desk.Finish place made) None d = Unit {0}
AddedReviewsFit (desk.Finish place made) (Some number) d = TurnedFits place (Finished number) d

abbrev pub ReviewsFit : Option DeskEdit → DeskState → Type 0
ReviewsFit None d = Unit {0}
ReviewsFit (Some e) d = AddedReviewsFit e.change e.entry d

-- of all rows that a change adds
pub record AddedNumbersFit {K U : Type 0} (s : State) (change : Change K U) : Type 0 where
  pub entries : HeldEntriesFit change.edit
  pub reviews : ReviewsFit change.desk s.desk
  pub moves : All MoveFits (recorded_moves change.recording)
  pub all : NumbersFit (changed change s)
  pub counts : CountsFit (changed change s).first
