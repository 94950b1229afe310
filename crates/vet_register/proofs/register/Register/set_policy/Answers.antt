use Rattle.std.proofs.Common.{refl}
use Rattle.vet_register.specs.declared.command.Action.TheVariants as action
use Rattle.vet_register.proofs.Asking.{effective}
use Rattle.vet_register.proofs.AskingEdits.{accepts, passed_on, plain_is}
use Rattle.vet_register.proofs.register.Register.set_policy.Goals as goal

pub returns-clause-asked : goal.returns-clause-asked
returns-clause-asked g c day =
    let asks = action.SetPolicy c.args.policy.now in
    let told = accepts (c.in_ok-number.ensures day) c.in_default.is in
    let set = c.in_ok-edit_of_policy.ensures in
    effective _ day asks _ _ told (plain_is c.self.view_is c.self.invariant.1 day asks tt told _ _ refl
    set.edit refl _ _ _ set.content set.fits)

pub returns-in_err-number-clause-asked : goal.returns-in_err-number-clause-asked
returns-in_err-number-clause-asked g c day = passed_on _ _ _ _ _ _ c.from_residual.ensures.1
    (c.in_err-number.ensures day)
