use Rattle.std.proofs.Common.{refl}
use Rattle.std.proofs.lemmas.Result.{err_from_is_err_and}
use Rattle.vet_register.specs.declared.command.Action.TheVariants as action
use Rattle.vet_register.proofs.Asking.{effective, known_touched, no_memory}
use Rattle.vet_register.proofs.AskingEdits.{accepts, none_given, of_facts_is_still, passed_on, state_before}
use Rattle.vet_register.proofs.register.Register.set_day.Goals as goal

pub returns-in_err-number-clause-asked : goal.returns-in_err-number-clause-asked
returns-in_err-number-clause-asked g c = passed_on _ _ _ _ _ _ c.from_residual.ensures.1 c.in_err-number.ensures

pub returns-in_err-touching-clause-asked : goal.returns-in_err-touching-clause-asked
returns-in_err-touching-clause-asked g c =
    let passed = err_from_is_err_and c.from_residual-in_err-touching.result
    c.from_residual-in_err-touching.ensures.1 in
    rw (passed.1, passed.2) (no_memory _ _ _ _ _ (accepts c.in_ok-number.ensures c.in_default.is)
    c.in_err-touching.ensures.memory)

pub returns-clause-asked : goal.returns-clause-asked
returns-clause-asked g c =
    let sound = c.self.invariant.1.held.facts in
    let set = c.edit_of_today.ensures in
    let asks = action.SetDay in
    let told = accepts c.in_ok-number.ensures c.in_default.is in
    effective _ c.args.day asks _ _ told (of_facts_is_still c.self.view_is c.self.invariant.1 c.args.day asks tt told
    refl _ _ set.edit (known_touched (state_before c.self.view_is) c.args.day asks _ _ c.in_ok-touching.ensures.ok refl)
    sound.criteria sound.publishers _ _ refl refl (none_given refl) set.fits)
