-- Borrowed entries, each with the place of its peer, and those of one package (ours).
use Rattle.std.specs.Prelude.{ℕ, ◌≡◌, ◌<◌, List, Option, None, Some, IfSome, length, map, slice_get}
use Rattle.std.specs.List.{All}
use Rattle.vet_entries.specs.declared.held_peer.HeldPeer.{HeldPeer}
use Rattle.vet_entries.specs.declared.package_entries.PackageEntries.{PackageEntries}
use Rattle.vet_entries.specs.declared.package_entries.Taken.{Taken}
use Rattle.vet_entries.specs.Facts.{Facts}
use Rattle.vet_entries.specs.Step.{SourcedEntry, entries_of}

-- the peer at a place, or none for an own entry
abbrev pub peer_at : List HeldPeer → Option ℕ → Option HeldPeer
peer_at peers None = None
peer_at peers (Some place) = slice_get peers place

-- the borrowed entry with its peer
abbrev pub sourced_entry : List HeldPeer → Taken → SourcedEntry
sourced_entry peers t = record { peer = peer_at peers t.peer; held = t.held.now }

abbrev pub all_sourced : List HeldPeer → List Taken → List SourcedEntry
all_sourced peers taken = map (sourced_entry peers) taken

-- the peer of an entry is among the peers
abbrev pub HasPeer : List HeldPeer → Taken → Type 0
HasPeer peers t = IfSome t.peer (λ place. place < length peers)

-- they are the entries of their package, and the peer of each is among the peers
pub record AreEntriesOf (facts : Facts) (held : PackageEntries) : Type 0 where
  pub entries : all_sourced facts.peers held.taken.items ≡ entries_of facts held.«package».now
  pub peers : All (HasPeer facts.peers) held.taken.items
