-- One's own entries and those of the peers so far are among them, and the peer of each is there.
use Rattle.std.proofs.Common.{◌≡◌, ◌++◌, None, take}
use Rattle.std.specs.List.{All, flat_map}
use Rattle.vet_entries.specs.Step.{sourced, taken_from}
use Rattle.vet_entries.specs.Taken.{HasPeer, all_sourced}
use Rattle.vet_entries.proofs.package_entries.entries_of.Given as goal

abbrev pub invariant-loop-place : goal.invariant-loop-place
invariant-loop-place l =
    let content = l.facts.content in
    record {
      entries : all_sourced content.peers l.taken.items ≡ sourced None l.«package» content.entries ++ flat_map
          (taken_from l.«package») (take l.place content.peers);
      there : All (HasPeer content.peers) l.taken.items;
    }
