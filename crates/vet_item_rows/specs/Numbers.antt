-- Numbers that a column of numbers holds (ours): those below 2^63.
use Rattle.std.specs.Prelude.{ℕ, ◌<◌, ◌^◌}
use Rattle.std.specs.List.{All}
use Rattle.vet_desk.specs.SoundDesk.{IsEntryGiven}
use Rattle.vet_desk.specs.declared.review.Review.{Review}
use Rattle.vet_entries.specs.declared.facts.HeldEntry.{HeldEntry}
use Rattle.vet_entries.specs.declared.held_peer.HeldPeer.{HeldPeer}

-- a number has a column
abbrev pub HasColumn : ℕ → Type 0
HasColumn n = n < 2 ^ 63

-- so have the number of an entry, and those of a review and of the entry that finished it
abbrev pub EntryFits : HeldEntry → Type 0
EntryFits held = HasColumn held.number

abbrev pub ReviewFits : Review → Type 0
ReviewFits review = HasColumn review.number × IsEntryGiven (2 ^ 63) review.state

-- all entries of a peer
abbrev pub PeerFits : HeldPeer → Type 0
PeerFits peer = All EntryFits peer.content.entries
