-- What is left of the limit, with the entries of the peers so far, is the limit.
use Rattle.std.proofs.Common.{◌≡◌, ◌+◌, take}
use Rattle.vet_entries.specs.Facts.{entries_of_peers}
use Rattle.vet_register.proofs.sound_held.check_few_of_peers.Given as goal

abbrev pub invariant-peers : goal.invariant-peers
invariant-peers l = l.left + entries_of_peers (take l.peer-index l.peers) ≡ l.most
