use Rattle.std.proofs.Common.{ap, refl, None}
use Rattle.vet_register.specs.declared.command.Action.TheVariants as action
use Rattle.vet_register.specs.RegisterView.{RegisterView}
use Rattle.vet_register.specs.Verdict.{held_or}
use Rattle.vet_base.proofs.Telling.{answered}
use Rattle.vet_register.proofs.Asking.{effective, known_touched, some_day}
use Rattle.vet_register.proofs.AskingEdits.{none_given, of_facts_is_still, only_of_peer, state_before, told_before}
use Rattle.vet_register.proofs.Imports.{drop_held}
use Rattle.vet_register.proofs.register.Register.drop_peer.Goals as goal

pub returns-clause-asked : goal.returns-clause-asked
returns-clause-asked g c day =
    let sound = c.self.invariant.1.held.facts in
    let made = c.edit_dropping_peer.ensures in
    let asks = action.DropPeer c.args.name.now in
    let told = ap (held_or None) (answered _ _ (c.in_ok-judge_peer_drop.ensures day)) in
    effective _ day asks _ _ told (of_facts_is_still c.self.view_is c.self.invariant.1 day asks tt told refl _ _
    made.edit (known_touched (state_before c.self.view_is) day asks _ _ c.in_ok-touching.ensures.ok
    (only_of_peer _ _ c.args.name.now (ap (λ (r : RegisterView _). r.state.held.facts) c.self.view_is)))
    sound.criteria sound.publishers _ _ refl refl (none_given refl) made.fits)

pub edit_dropping_peer-requires : goal.edit_dropping_peer-requires
edit_dropping_peer-requires g c =
    let told = ap (held_or None) (answered _ _ (c.in_ok-judge_peer_drop.ensures some_day)) in
    drop_held (state_before c.self.view_is) some_day c.args.name.now
    (told_before c.self.view_is some_day (action.DropPeer c.args.name.now) told)
