-- The peer's entries at the places so far were added, and the peer of each is there.
use Rattle.std.proofs.Common.{◌≡◌, ◌++◌, get_or, take}
use Rattle.std.specs.Prelude.{Some}
use Rattle.std.specs.List.{All}
use Rattle.vet_entries.specs.declared.held_peer.HeldPeer.{HeldPeer}
use Rattle.vet_entries.specs.Source.{sourced_at}
use Rattle.vet_entries.specs.Taken.{HasPeer, all_sourced}
use Rattle.vet_entries.proofs.package_entries.add_of_peer.Given as goal

abbrev pub invariant-loop-place : goal.invariant-loop-place
invariant-loop-place l =
    let peers = l.facts.content.peers in
    record {
      entries : (d : HeldPeer) → all_sourced peers l.taken.items ≡ all_sourced peers l.fn.taken.items ++ sourced_at
          (Some (get_or peers l.at d)) l.entries (take l.place-index l.place-items);
      there : All (HasPeer peers) l.taken.items;
    }
