use Rattle.std.proofs.Common.{rules, tests}
use Rattle.std.proofs.lemmas.Iterator.{YieldsList-from_slice}
use Rattle.std.proofs.lemmas.Iterator.Search.{all_from_yields_List}
use Rattle.vet_entries.specs.declared.facts.HeldEntry.{HeldEntry}
use Rattle.vet_entries.specs.PeerContent.{is_peer_kind}
use Rattle.vet_register.specs.SoundPeers.{IsOfPeer}
use Rattle.vet_register.proofs.Checked.{of_test}
use Rattle.vet_register.proofs.sound_peers.are_of_peer.Goals as goal

pub returns : goal.returns
returns c =
    let entries = c.args.entries.now in
    let test = (λ (h : HeldEntry). is_peer_kind h.entry.kind) in
    of_test test IsOfPeer (λ h. (λ t. t, λ t. t)) entries c.all.result
    (all_from_yields_List test _ _ c.all.result c.all.ensures.ran (YieldsList-from_slice entries cc)
    (λ x r q k. search (rules, tests)))
