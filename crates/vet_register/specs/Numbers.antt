-- The numbers of entries (ours).
use Rattle.std.specs.Prelude.{ℕ, List, map}
use Rattle.std.specs.List.{flat_map}
use Rattle.vet_entries.specs.declared.facts.HeldEntry.{HeldEntry}
use Rattle.vet_entries.specs.declared.held_peer.HeldPeer.{HeldPeer}

-- the numbers of some entries
abbrev pub numbers_of : List HeldEntry → List ℕ
numbers_of entries = map (λ (h : HeldEntry). h.number) entries

-- the numbers of the entries of some peers
abbrev pub peers_numbers : List HeldPeer → List ℕ
peers_numbers peers = flat_map (λ (p : HeldPeer). numbers_of p.content.entries) peers
