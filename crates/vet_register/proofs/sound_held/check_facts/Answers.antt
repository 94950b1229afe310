use Rattle.std.proofs.Common.{subst}
use Rattle.std.specs.List.{All}
use Rattle.vet_register.specs.Sound.{IsSoundPeer}
use Rattle.vet_register.proofs.sound_held.check_facts.Goals as goal

pub check_apart-requires : goal.check_apart-requires
check_apart-requires c =
    subst (All (IsSoundPeer c.args.next)) c.peers.ensures.value c.in_ok-check_peers.ensures.sound
