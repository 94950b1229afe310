use Rattle.std.proofs.Common.{◌≡◌, ◌<◌, Some, subst, sym, ap, ◌∙◌}
use Rattle.std.specs.List.{All}
use Rattle.std.specs.Option.{option_copied}
use Rattle.vet_entries.specs.HeldPeer.{peer_of}
use Rattle.vet_register.specs.RegisterView.{RegisterView}
use Rattle.vet_register.proofs.Imports.{found_given}
use Rattle.vet_register.proofs.register.Register.holding_after.Goals as goal

pub holding_after-requires-clause-below : goal.holding_after-requires-clause-below
holding_after-requires-clause-below g c =
    let name = c.args.name.now in
    let found : peer_of c.args.self.now.state.held.facts.peers name ≡ Some c.in-Some.peer.now =
    ap (λ (r : RegisterView _). peer_of r.state.held.facts.peers name) (sym c.self.view_is) ∙ sym c.peer.ensures ∙ ap
    option_copied c.in-Some.is in
    subst (λ (r : RegisterView _). All (λ h. h.number < r.state.next_entry) c.in-Some.peer.now.content.entries)
    (sym c.self.view_is)
    (found_given c.args.self.now.state.held.facts.peers c.args.self.now.state.next_entry name c.in-Some.peer.now
    c.state_is_sound.ensures.held.facts.peers found)
