-- Those so far.
use Rattle.std.proofs.Common.{take}
use Rattle.vet_rows.specs.KeyTexts.{ArePeersNamed}
use Rattle.vet_rows.proofs.row_changes.key_texts.peers_are_named.Given as goal

abbrev pub invariant-peers : goal.invariant-peers
invariant-peers l = ArePeersNamed (take l.peer-index l.peers)
