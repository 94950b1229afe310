-- The numbers of the peers so far.
use Rattle.std.proofs.Common.{◌≡◌, ◌++◌, take}
use Rattle.vet_register.specs.Numbers.{peers_numbers}
use Rattle.vet_register.proofs.sound_numbers.add_peers.Given as goal

abbrev pub invariant-peers : goal.invariant-peers
invariant-peers l = l.numbers.items ≡ l.initial.numbers.items ++ peers_numbers (take l.peer-index l.peers)
