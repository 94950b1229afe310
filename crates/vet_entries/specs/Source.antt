-- The entries of a package from one source (ours).
use Rattle.std.specs.Prelude.{ℕ, ◌<◌, List, Option, length, map}
use Rattle.std.specs.List.{All}
use Rattle.std.specs.Option.{option_copied}
use Rattle.vet_entries.specs.declared.facts.HeldEntry.{HeldEntry}
use Rattle.vet_entries.specs.declared.held_peer.HeldPeer.{HeldPeer}
use Rattle.vet_entries.specs.declared.source.Source.{Source}
use Rattle.vet_entries.specs.ByPackage.{gathered}
use Rattle.vet_entries.specs.Step.{SourcedEntry}

-- the entries at some places, as those of a peer or as one's own
abbrev pub sourced_at : Option HeldPeer → List HeldEntry → List ℕ → List SourcedEntry
sourced_at peer entries places = map (λ h. record { peer = peer; held = h }) (gathered entries places)

-- the entries of a source
abbrev pub entries_from : Source → List SourcedEntry
entries_from s = sourced_at (option_copied s.peer) s.entries.now s.places.now

-- each of its places is that of an entry
abbrev pub IsWithin : Source → Type 0
IsWithin s = All (λ place. place < length s.entries.now) s.places.now
