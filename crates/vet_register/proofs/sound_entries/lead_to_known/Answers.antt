use Rattle.std.proofs.Common.{is_none, rules, tests}
use Rattle.std.proofs.lemmas.Iterator.{YieldsList-from_slice}
use Rattle.std.proofs.lemmas.Iterator.Search.{all_from_yields_List}
use Rattle.vet_base.specs.Criteria.{least_unknown}
use Rattle.vet_entries.specs.declared.held_peer.HeldPeer.{HeldPeer}
use Rattle.vet_entries.specs.PeerWords.{targets}
use Rattle.vet_entries.specs.Step.{HasKnownTargets}
use Rattle.vet_register.proofs.Checked.{none_told, of_test}
use Rattle.vet_register.proofs.sound_entries.lead_to_known.Goals as goal

pub returns : goal.returns
returns c =
    let criteria = c.args.criteria.now in
    let peers = c.args.peers.now in
    let test = (λ (p : HeldPeer). is_none (least_unknown criteria (targets p.settings.map))) in
    of_test test (HasKnownTargets criteria) (λ p. none_told (least_unknown criteria (targets p.settings.map))) peers
    c.all.result
    (all_from_yields_List test _ _ c.all.result c.all.ensures.ran (YieldsList-from_slice peers cc)
    (λ x r q k. search (rules, tests)))
