use Rattle.std.proofs.Common.{◌∙◌, ap, refl}
use Rattle.vet_entries.specs.HeldPeer.{with_settings}
use Rattle.vet_register.specs.declared.command.Action.TheVariants as action
use Rattle.vet_register.specs.RegisterView.{RegisterView}
use Rattle.vet_register.proofs.Asking.{effective, known_touched}
use Rattle.vet_register.proofs.AskingEdits.{accepts, none_given, of_facts_is, only_of_peer, passed_on, state_before}
use Rattle.vet_register.proofs.register.Register.set_peer.Goals as goal

pub returns-in_err-number-clause-asked : goal.returns-in_err-number-clause-asked
returns-in_err-number-clause-asked g c day = passed_on _ _ _ _ _ _ c.from_residual.ensures.1
    (c.in_err-number.ensures day)

pub returns-clause-asked : goal.returns-clause-asked
returns-clause-asked g c day =
    let was = c.self.inside.held.facts.content in
    let sound = c.self.invariant.1.held.facts in
    let set = c.in_ok-edit_of_settings.ensures in
    let asks = action.SetPeer c.args.settings.now in
    let told = accepts (c.in_ok-number.ensures day) c.in_default.is in
    effective _ day asks _ _ told (of_facts_is c.self.view_is c.self.invariant.1 day asks tt told refl _ _
    (set.edit ∙ (λ i. record was { peers = with_settings (c.in_ok-copy.ensures.cases i) was.peers }))
    (known_touched (state_before c.self.view_is) day asks _ _ c.in_ok-touching.ensures.ok
    (only_of_peer _ _ c.args.settings.now.name (ap (λ (r : RegisterView _). r.state.held.facts) c.self.view_is)))
    sound.criteria sound.publishers _ _ _ _ _ set.content refl refl (none_given refl) set.fits)
