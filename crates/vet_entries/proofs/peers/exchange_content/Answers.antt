use Rattle.std.proofs.Common.{◌≡◌, Some, sym, ap, ◌∙◌}
use Rattle.vet_entries.specs.declared.held_peer.HeldPeer.{HeldPeer}
use Rattle.vet_entries.specs.HeldPeer.{peer_of, with_content, with_peer}
use Rattle.vet_entries.proofs.PeerLaws.{content_back, found_name, none_left, put_over, with_content-held}
use Rattle.vet_entries.proofs.peers.exchange_content.Goals as goal

pub put_reserved-requires-clause-new : goal.put_reserved-requires-clause-new
put_reserved-requires-clause-new c =
    let old = c.args.peers.now.items in
    let same = ap (λ s. s.name) c.into_parts-settings.ensures.settings ∙ found_name old c.args.name.now c.in-Some.peer
    (sym c.take.ensures.item ∙ c.in-Some.is) in
    rw (c.take.ensures.items, same) (none_left old c.args.name.now)

found : (c : goal.After-entries) → peer_of c.args.peers.now.items c.args.name.now ≡ Some c.in-Some.peer
found c = sym c.take.ensures.item ∙ c.in-Some.is

pub returns-clause-items : goal.returns-clause-items
returns-clause-items c =
    let old = c.args.peers.now.items in
    let put : HeldPeer = record { settings = c.into_parts-settings.result.0; content = c.args.content } in
    let same = ap (λ s. s.name) c.into_parts-settings.ensures.settings ∙ found_name old c.args.name.now c.in-Some.peer
    (found c) in
    c.put_reserved.ensures.items ∙ ap (with_peer put) c.take.ensures.items ∙ put_over old c.args.name.now put
    c.items.ensures.by_key same
    ∙ ap (λ settings. with_peer (record { settings = settings; content = c.args.content }) old)
    c.into_parts-settings.ensures.settings
    ∙ sym (with_content-held old c.in-Some.peer c.items.ensures.by_key c.args.name.now c.args.content (found c))

pub returns-clause-back : goal.returns-clause-back
returns-clause-back c =
    ap (with_content c.args.name.now c.into_parts-settings.result.1) (returns-clause-items c)
    ∙ ap (λ h. with_content c.args.name.now h (with_content c.args.name.now c.args.content c.args.peers.now.items))
    c.into_parts-settings.ensures.content
    ∙ content_back c.args.peers.now.items c.in-Some.peer c.items.ensures.by_key c.args.name.now c.args.content (found c)
