-- The peers so far are sound.
use Rattle.std.proofs.Common.{take}
use Rattle.std.specs.List.{All}
use Rattle.vet_register.specs.Sound.{IsSoundPeer}
use Rattle.vet_register.proofs.sound_peers.check_each_peer.Given as goal

abbrev pub invariant-peers : goal.invariant-peers
invariant-peers l = All (IsSoundPeer l.next) (take l.peer-index l.peers)
