use Rattle.std.proofs.Common.{◌≡◌, Some, refl, sym, ap, ◌∙◌}
use Rattle.vet_entries.specs.declared.held_peer.HeldPeer.{HeldPeer}
use Rattle.vet_entries.specs.HeldPeer.{peer_of, with_peer, with_settings}
use Rattle.vet_entries.proofs.PeerLaws.{found_name, none_left, put_over, settings_back, with_settings-held}
use Rattle.vet_entries.proofs.peers.exchange_settings.Goals as goal

found : (c : goal.After-put_reserved) → peer_of c.args.peers.now.items c.args.settings.name ≡ Some c.in-Some.peer
found c = sym c.take.ensures.item ∙ c.in-Some.is

pub put_reserved-requires-clause-new : goal.put_reserved-requires-clause-new
put_reserved-requires-clause-new c = rw c.take.ensures.items (none_left c.args.peers.now.items c.args.settings.name)

pub returns-clause-items : goal.returns-clause-items
returns-clause-items c =
    let old = c.args.peers.now.items in
    let put : HeldPeer = record { settings = c.args.settings; content = c.into_parts-held.result.1 } in
    c.put_reserved.ensures.items ∙ ap (with_peer put) c.take.ensures.items ∙ put_over old c.args.settings.name put
    c.items.ensures.by_key refl
    ∙ ap (λ content. with_peer (record { settings = c.args.settings; content = content }) old)
    c.into_parts-held.ensures.content
    ∙ sym (with_settings-held old c.in-Some.peer c.items.ensures.by_key c.args.settings (found c))

pub returns-clause-name : goal.returns-clause-name
returns-clause-name c = ap (λ s. s.name) c.into_parts-held.ensures.settings ∙ found_name c.args.peers.now.items
    c.args.settings.name c.in-Some.peer (found c)

pub returns-clause-back : goal.returns-clause-back
returns-clause-back c =
    ap (with_settings c.into_parts-held.result.0) (returns-clause-items c)
    ∙ ap (λ s. with_settings s (with_settings c.args.settings c.args.peers.now.items))
    c.into_parts-held.ensures.settings
    ∙ settings_back c.args.peers.now.items c.in-Some.peer c.items.ensures.by_key c.args.settings (found c)
