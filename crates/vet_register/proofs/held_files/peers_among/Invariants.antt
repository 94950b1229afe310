use Rattle.std.proofs.Common.{◌≡◌, map, take}
use Rattle.vet_register.specs.HeldFiles.{imported_of}
use Rattle.vet_register.proofs.held_files.peers_among.Given as goal

abbrev pub invariant-peers : goal.invariant-peers
invariant-peers l = l.copies.items ≡ map imported_of (take l.peer-index l.peers)
