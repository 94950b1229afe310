use Rattle.std.proofs.Common.{◌≡◌, ◌++◌, Some, length, get_or, refl, sym, ap, ◌∙◌}
use Rattle.std.proofs.lemmas.List.{get_or_default, take_all}
use Rattle.std.proofs.lemmas.Option.{slice_get_read}
use Rattle.vet_entries.specs.Source.{sourced_at}
use Rattle.vet_entries.specs.Step.{taken_from}
use Rattle.vet_entries.specs.Taken.{HasPeer, all_sourced}
use Rattle.vet_entries.proofs.NumberAmong.{within_same}
use Rattle.vet_entries.proofs.Sourcing.{All-push, one_more_sourced}
use Rattle.vet_entries.proofs.package_entries.add_of_peer.Goals as goal

pub loop-place-preserved : goal.loop-place-preserved
loop-place-preserved c =
    let content = c.args.facts.now.content in
    let peers = content.peers in
    let at = c.args.at in
    let entries = c.entries-entries.result.now in
    let places = c.places_taken-place-items.result.now in
    let i = c.loop-place.place-index in
    let within = within_same (get_or places i 0) entries _
    (c.places_taken-place-items.ensures.within i 0 c.loop-place-test.true) c.entries-entries.ensures.value in
    record {
      entries = λ d. one_more_sourced peers (Some (get_or peers at d)) entries places i c.index-entries-place.result
          (all_sourced peers c.args.taken.now.items) c.loop-place.taken.items c.push.new.self.items _
          c.loop-place-test.true within c.index-entries-place.is c.in_ok-push.ensures.items
          (slice_get_read peers (length peers) at (get_or peers at d) refl c.requires.at
          (get_or_default peers at d (get_or peers at d) c.requires.at)) refl (c.loop-place.invariant.entries d);
      there = All-push (HasPeer content.peers) c.loop-place.taken.items c.push.new.self.items _
          c.in_ok-push.ensures.items c.loop-place.invariant.there c.requires.at;
    }

pub returns-clause-entries : goal.returns-clause-entries
returns-clause-entries c d =
    let peers = c.args.facts.now.content.peers in
    let peer = c.index-peers-at.result in
    let places = c.places_taken-place-items.result.now in
    let same : get_or peers c.args.at d ≡ peer =
    sym (c.index-peers-at.is ∙ ap (λ (ps : _). get_or ps c.args.at peer) c.peers.ensures.value
    ∙ get_or_default peers c.args.at peer d c.requires.at) in
    c.loop-place.invariant.entries d
    ∙ ap (λ es. all_sourced peers c.args.taken.now.items ++ es)
    (ap (sourced_at (Some (get_or peers c.args.at d)) c.entries-entries.result.now)
    (take_all c.loop-place.place-index places c.loop-place-test.false)
    ∙ (λ i. sourced_at (Some (same i)) (c.entries-entries.ensures.value i) places)
    ∙ c.places_taken-place-items.ensures.entries
    ∙ ap (taken_from c.args.«package».now) (sym same))
