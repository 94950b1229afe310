use Rattle.std.proofs.Common.{◌≡◌, subst}
use Rattle.std.proofs.lemmas.List.{take_all}
use Rattle.vet_entries.specs.HeldPeer.{peer_name}
use Rattle.vet_entries.specs.declared.held_peer.HeldPeer.{HeldPeer}
use Rattle.vet_item_rows.specs.Columns.{own_peer}
use Rattle.vet_rows.specs.KeyTexts.{ArePeersNamed}
use Rattle.vet_rows.proofs.Named.{not_empty}
use Rattle.vet_rows.proofs.SoFar.{one_more}
use Rattle.vet_rows.proofs.row_changes.key_texts.peers_are_named.Goals as goal

pub peers-preserved : goal.peers-preserved
peers-preserved c =
    one_more (λ (p : HeldPeer). peer_name p ≡ own_peer → ⊥)
    c.args.peers.now c.peers.peer-index c.peer-item.result c.peers-test.true c.peer-item.is
    c.peers.invariant
    (not_empty _ c.as_str.ensures.name)

pub returns : goal.returns
returns c =
    subst ArePeersNamed (take_all c.peers.peer-index c.args.peers.now c.peers-test.false) c.peers.invariant
