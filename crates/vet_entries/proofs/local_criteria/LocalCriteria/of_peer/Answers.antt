use Rattle.std.proofs.Common.{Some, ap, ◌∙◌}
use Rattle.std.specs.Prelude.{slice_index_or}
use Rattle.std.proofs.lemmas.List.{get_or_default}
use Rattle.vet_base.specs.Criteria.{closure_of, placed}
use Rattle.vet_entries.specs.Mapped.{mapped}
use Rattle.vet_entries.specs.PeerWords.{local_criteria}
use Rattle.vet_entries.specs.declared.held_peer.HeldPeer.{HeldPeer}
use Rattle.vet_entries.proofs.local_criteria.LocalCriteria.of_peer.Goals as goal

pub returns-clause-criteria : goal.returns-clause-criteria
returns-clause-criteria c d =
    let table = c.args.facts.now.content.criteria in
    let peers = c.args.facts.now.content.peers in
    let place = c.args.place in
    let names = c.args.names.now in
    let peer = c.index-peers-place.result in
    let same = λ (e : HeldPeer). c.index-peers-place.is ∙ ap (λ ps. slice_index_or ps place peer) c.peers.ensures.value
    ∙ get_or_default peers place peer e c.requires.place in
    let there = closure_of peer.content.table names in
    c.close.ensures.closure table (mapped peer.settings.map there) c.requires.local.own
    (c.in_ok-stands.ensures.stands
    ∙ ap (λ t. placed t (mapped peer.settings.map there)) c.criteria-criteria.ensures.value)
    ∙ ap (λ (p : HeldPeer). local_criteria table (Some p) names) (same d)
