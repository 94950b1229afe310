use Rattle.std.proofs.Common.{sym, subst}
use Rattle.std.specs.List.{All}
use Rattle.vet_register.specs.SoundPeers.{AreOfPeer, IsOfPeer}
use Rattle.vet_register.proofs.Checked.{no_register, refuted}
use Rattle.vet_register.proofs.SoundPeers.{content_of_parts, kinds_of}
use Rattle.vet_register.proofs.sound_peers.check_content.Goals as goal

pub returns-then-not-are_of_peer : goal.returns-then-not-are_of_peer
returns-then-not-are_of_peer c =
    no_register (λ some. refuted c.are_of_peer.ensures c.if-not-are_of_peer.true
    (subst (All IsOfPeer) (sym c.entries.ensures.value) (kinds_of c.args.name.now c.args.content.now some)))

pub returns : goal.returns
returns c =
    content_of_parts c.args.name.now c.args.content.now c.args.next c.requires
    (subst (All IsOfPeer) c.entries.ensures.value (c.are_of_peer.ensures.0 c.if-not-are_of_peer.false))
    (subst AreOfPeer c.definitions.ensures (c.in_ok-are_defined.ensures.ok.0 c.if-not-branch.false))
