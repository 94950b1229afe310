use Rattle.std.proofs.Common.{ap, refl, None}
use Rattle.vet_register.specs.declared.command.Action.TheVariants as action
use Rattle.vet_register.specs.Verdict.{held_or}
use Rattle.vet_base.proofs.Telling.{answered}
use Rattle.vet_register.proofs.Asking.{effective, some_day}
use Rattle.vet_register.proofs.AskingEdits.{plain_is_still, state_before, told_before}
use Rattle.vet_register.proofs.HeldEffects.{policy_held}
use Rattle.vet_register.proofs.register.Register.drop_policy.Goals as goal

pub edit_dropping_policy-requires : goal.edit_dropping_policy-requires
edit_dropping_policy-requires g c =
    policy_held (state_before c.self.view_is) some_day c.args.key.now
    (told_before c.self.view_is some_day (action.DropPolicy c.args.key.now)
    (ap (held_or None) (answered _ _ (c.in_ok-judge_policy_drop.ensures some_day))))

pub returns-clause-asked : goal.returns-clause-asked
returns-clause-asked g c day =
    let asks = action.DropPolicy c.args.key.now in
    let told = ap (held_or None) (answered _ _ (c.in_ok-judge_policy_drop.ensures day)) in
    effective _ day asks _ _ told (plain_is_still c.self.view_is c.self.invariant.1 day asks tt told _ _ refl
    c.edit_dropping_policy.ensures.edit refl c.edit_dropping_policy.ensures.fits)
