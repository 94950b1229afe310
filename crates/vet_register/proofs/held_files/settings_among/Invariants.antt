use Rattle.std.proofs.Common.{◌≡◌, map, take}
use Rattle.vet_entries.specs.declared.held_peer.HeldPeer.{HeldPeer}
use Rattle.vet_register.proofs.held_files.settings_among.Given as goal

abbrev pub invariant-peers : goal.invariant-peers
invariant-peers l = l.copies.items ≡ map (λ (p : HeldPeer). p.settings) (take l.peer-index l.peers)
