use Rattle.std.proofs.Common.{◌≡◌, ◌∙◌, ap, map, sym, subst}
use Rattle.std.specs.List.{All}
use Rattle.vet_entries.specs.PeerContent.{IsPeerContent}
use Rattle.vet_entries.specs.declared.held_peer.HeldPeer.{HeldPeer}
use Rattle.vet_files.specs.SameContent.{IsImports}
use Rattle.vet_register.specs.HeldFiles.{content_of, imported_of}
use Rattle.vet_register.proofs.Readable.{all_readable, imports_readable}
use Rattle.vet_register.proofs.register.Register.held_imports.Goals as goal

pub peers_among-requires : goal.peers_among-requires
peers_among-requires g c =
    let state = c.args.self.now.state in
    subst (All (λ (p : HeldPeer). IsPeerContent (content_of p.content).criteria (content_of p.content).entries))
    (sym c.peers-2.ensures)
    (all_readable state.held.facts.peers state.next_entry c.state_is_sound.ensures.held.facts.peers.sound)

pub returns-clause-readable : goal.returns-clause-readable
returns-clause-readable g c =
    let state = c.args.self.now.state in
    let published : c.of-2.result ≡ state.held.facts.publishers = c.of-2.ensures ∙
    c.in_ok-publishers.ensures.items_if_clones_equal (λ a b h. h) ∙ c.publishers.ensures in
    let peers : c.of-3.result ≡ map imported_of state.held.facts.peers = c.of-3.ensures ∙ c.in_ok-peers.ensures ∙ ap
    (map imported_of) c.peers-2.ensures in
    subst IsImports (λ i. record { publishers = sym published i; peers = sym peers i })
    (imports_readable state.held.facts state.next_entry c.state_is_sound.ensures.held.facts)
