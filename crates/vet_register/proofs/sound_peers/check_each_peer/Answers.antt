use Rattle.std.proofs.Common.{List, sym, subst, arith}
use Rattle.std.proofs.lemmas.Result.{err_from_is_err_and}
use Rattle.std.specs.List.{All}
use Rattle.std.proofs.lemmas.List.{take_all}
use Rattle.std.proofs.lemmas.List.Elements.{All-more}
use Rattle.vet_entries.specs.declared.held_peer.HeldPeer.{HeldPeer}
use Rattle.vet_register.specs.Sound.{IsSoundPeer}
use Rattle.vet_register.proofs.Checked.{part}
use Rattle.vet_register.proofs.sound_peers.check_each_peer.Goals as goal

pub peers-preserved : goal.peers-preserved
peers-preserved c =
    All-more (IsSoundPeer c.args.next) c.args.peers.now c.peers.peer-index c.peer-item.result c.peers-test.true
    c.peers.invariant (subst (IsSoundPeer c.args.next) c.peer-item.is c.in_ok-check_peer.ensures)

pub returns : goal.returns
returns c = subst (λ (peers : List HeldPeer). All (IsSoundPeer c.args.next) peers)
    (take_all c.peers.peer-index c.args.peers.now (omega (arith, c.peers-test.false))) c.peers.invariant

pub returns-in_err-check_peer : goal.returns-in_err-check_peer
returns-in_err-check_peer c =
    let passed = err_from_is_err_and c.from_residual.result c.from_residual.ensures.1 in
    rw (passed.1, passed.2)
    (part (λ all. subst (IsSoundPeer c.args.next) (sym c.peer-item.is)
    (all c.peers.peer-index c.peer-item.result c.peers-test.true)) c.in_err-check_peer.ensures)
