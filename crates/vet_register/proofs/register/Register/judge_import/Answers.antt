use Rattle.std.proofs.Common.{◌≡◌, Some, sym, ap, ◌∙◌}
use Rattle.std.specs.Option.{option_copied}
use Rattle.vet_entries.specs.HeldPeer.{peer_of}
use Rattle.vet_register.specs.RegisterView.{RegisterView}
use Rattle.vet_register.proofs.Imports.{found_from}
use Rattle.vet_register.proofs.register.Register.judge_import.Goals as goal

pub compare-requires : goal.compare-requires
compare-requires g c =
    let name = c.args.name.now in
    let found : peer_of c.args.self.now.state.held.facts.peers name ≡ Some c.in-Some.peer.now =
    ap (λ (r : RegisterView _). peer_of r.state.held.facts.peers name) (sym c.self.view_is) ∙ sym c.peer.ensures ∙ ap
    option_copied c.in-Some.is in
    found_from c.args.self.now.state.held.facts.peers c.args.self.now.state.next_entry name c.in-Some.peer.now
    c.state_is_sound.ensures.held.facts.peers found
