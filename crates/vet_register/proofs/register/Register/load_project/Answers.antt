use Rattle.std.proofs.Common.{◌∙◌, ap, refl}
use Rattle.vet_demand.specs.declared.project.NamedProject.{NamedProject}
use Rattle.vet_register.specs.declared.command.Action.TheVariants as action
use Rattle.vet_register.specs.Held.{HeldValue, content_of, with_project}
use Rattle.vet_register.proofs.Asking.{effective}
use Rattle.vet_register.proofs.AskingEdits.{accepts, passed_on, plain_is}
use Rattle.vet_register.proofs.register.Register.load_project.Goals as goal

pub returns-in_err-number-clause-asked : goal.returns-in_err-number-clause-asked
returns-in_err-number-clause-asked g c day = passed_on _ _ _ _ _ _ c.from_residual.ensures.1
    (c.in_err-number.ensures day)

pub returns-clause-asked : goal.returns-clause-asked
returns-clause-asked g c day =
    let set = c.in_ok-edit_of_project.ensures in
    let asks = action.LoadProject c.args.project.now in
    let told = accepts (c.in_ok-number.ensures day) c.in_default.is in
    let held : HeldValue = content_of c.self.inside.held in
    let copied = ap (λ (p : NamedProject). record held { projects = with_project p held.projects })
    c.in_ok-copy.ensures.cases in
    effective _ day asks _ _ told (plain_is c.self.view_is c.self.invariant.1 day asks tt told _ _ refl
    (set.edit ∙ copied) refl _ _ _ set.content set.fits)
