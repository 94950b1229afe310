-- The numbers of a sound state have columns.
use Rattle.std.proofs.Common.{◌≡◌, ℕ, ◌+◌, ◌<◌, ◌≤◌, ◌^◌, List, Some, length, arith}
use Rattle.std.specs.List.{All}
use Rattle.std.specs.Option.{option_eq}
use Rattle.std.proofs.lemmas.List.{length-map}
use Rattle.std.proofs.lemmas.List.Elements.{All-weaker}
use Rattle.std.proofs.lemmas.List.Sums.{count_by-le-length}
use Rattle.vet_base.specs.declared.limits.TheConstants.{LAST_NUMBER}
use Rattle.vet_demand.specs.declared.pair.Pair.{Pair}
use Rattle.vet_desk.specs.SoundDesk.{HaveEntriesGiven, IsEntryGiven, IsNumberGiven}
use Rattle.vet_desk.specs.declared.review.Review.{Review}
use Rattle.vet_desk.specs.declared.review.ReviewState.{ReviewState}
use Rattle.vet_desk.specs.declared.review.ReviewState.TheVariants.{Waiting, Assigned, Finished, Withdrawn}
use Rattle.vet_entries.specs.declared.facts.HeldEntry.{HeldEntry}
use Rattle.vet_entries.specs.declared.held_peer.HeldPeer.{HeldPeer}
use Rattle.vet_graph.specs.declared.class.Class.{Class}
use Rattle.vet_graph.specs.Standing.{count_in, same_class}
use Rattle.vet_graph.specs.StandingOf.{class_of_pair}
use Rattle.vet_graph.specs.declared.moves.Move.{Move}
use Rattle.vet_graph.specs.declared.standing.Stand.{Stand}
use Rattle.vet_item_rows.specs.Numbers.{EntryFits, HasColumn, PeerFits, ReviewFits}
use Rattle.vet_register.specs.Sound.{IsBy, IsGiven, IsSound, IsSoundPeer}
use Rattle.vet_register.specs.State.{State, changes_of, demanded, standing}
use Rattle.vet_register.specs.declared.moves.RecordedMove.{RecordedMove}
use Rattle.vet_rows.specs.Numbers.{MoveFits, NumbersFit}

below_last : (n next : ℕ) → n < next → next ≤ LAST_NUMBER + 1 → HasColumn n
below_last n next given last = omega arith

entries_fit : (next : ℕ) (entries : List HeldEntry) → All (IsGiven next) entries → next ≤ LAST_NUMBER + 1
    → All EntryFits entries
entries_fit next entries given last =
    All-weaker (IsGiven next) EntryFits (λ held below. below_last held.number next below last) entries given

peers_fit : (next : ℕ) (peers : List HeldPeer) → All (IsSoundPeer next) peers → next ≤ LAST_NUMBER + 1
    → All PeerFits peers
peers_fit next peers sound last =
    All-weaker (IsSoundPeer next) PeerFits
    (λ peer is. entries_fit next peer.content.entries is.entries.numbers_given last) peers sound

finisher_fits : (next : ℕ) (state : ReviewState) → IsEntryGiven next state → next ≤ LAST_NUMBER + 1
    → IsEntryGiven (2 ^ 63) state
finisher_fits next Waiting given last = given
finisher_fits next (Assigned member) given last = given
finisher_fits next (Finished entry) given last = below_last entry next given last
finisher_fits next Withdrawn given last = given

reviews_fit : (next_review next : ℕ) (reviews : List Review) → All (IsNumberGiven next_review) reviews
    → HaveEntriesGiven next reviews → next_review ≤ LAST_NUMBER + 1 → next ≤ LAST_NUMBER + 1 → All ReviewFits reviews
reviews_fit next_review next reviews numbers entries last_review last = λ k d within. (
  below_last _ next_review (numbers k d within) last_review,
  finisher_fits next _ (entries k d within) last,
)

moves_fit : (step : ℕ) (moves : List RecordedMove) → All (IsBy step) moves → step < 2 ^ 63 → All MoveFits moves
moves_fit step moves by last = All-weaker (IsBy step) MoveFits (λ m le. omega (arith, le, last)) moves by

pub numbers_fit : (s : State) → IsSound s → NumbersFit s
numbers_fit s sound =
    let step : HasColumn s.step = omega (arith, sound.last_step) in
    record {
      entries = entries_fit s.next_entry s.held.facts.entries sound.held.facts.entries.numbers_given sound.next_number;
      peers = peers_fit s.next_entry s.held.facts.peers sound.held.facts.peers.sound sound.next_number;
      reviews = reviews_fit s.desk.next_review s.next_entry s.desk.reviews sound.desk.desk.reviews.numbers_given
          sound.desk.entries_given sound.desk.desk.next_number sound.next_number;
      moves = moves_fit s.step s.moves sound.moves.steps step;
      step = step;
      next_entry = omega (arith, sound.next_number);
      next_review = omega (arith, sound.desk.desk.next_number);
      moves_limit = omega (arith, sound.limit);
    }

-- a count at first is within the pairs that are demanded now and the moves since
pub count_fits : (s : State) → IsSound s → (class : Class) → length (demanded s) + length s.moves < 2 ^ 63
    → HasColumn (count_in class s.first)
count_fits s sound class few =
    let balance = sound.balance class in
    let now = count_by-le-length (λ st. same_class st.class class) (standing s) in
    let at : Pair → Stand = λ p. record { pair = p; class = class_of_pair s.held.facts p } in
    let as_many : length (standing s) ≡ length (demanded s) = length-map (demanded s) at in
    let since = count_by-le-length (λ (m : Move). option_eq same_class m.before (Some class)) (changes_of s.moves) in
    let moves : length (changes_of s.moves) ≡ length s.moves = length-map s.moves (λ m. m.change) in
    omega (arith, balance, now, as_many, since, moves, few)
