use Rattle.std.proofs.Common.{◌≡◌, ◌⊎◌, ◌∙◌, ap, subst, sym}
use Rattle.std.proofs.lemmas.Result.{err_from_is_err_and}
use Rattle.vet_base.specs.declared.refusal.Refusal.{Refusal}
use Rattle.vet_base.specs.declared.refusal.Refusal.TheVariants.{NoMemory, NotARegister}
use Rattle.vet_item_rows.specs.ReadBack.{refusal_of}
use Rattle.vet_rows.proofs.StateRead.{refused_as}
use Rattle.vet_rows.proofs.state_of.state_of.Goals as goal

pub returns-in_err-read_state-clause-back : goal.returns-in_err-read_state-clause-back
returns-in_err-read_state-clause-back c version s sound held same =
    let passed = err_from_is_err_and c.from_residual.result c.from_residual.ensures.1 in
    let none = c.in_err-read_state.ensures version s sound held same in
    rw passed.1 (passed.2 ∙ ap refusal_of none)

pub returns-in_err-read_state-clause-refused : goal.returns-in_err-read_state-clause-refused
returns-in_err-read_state-clause-refused c =
    let passed = err_from_is_err_and c.from_residual.result c.from_residual.ensures.1 in
    rw passed.1 (subst (λ (y : Refusal). (y ≡ NoMemory) ⊎ (y ≡ NotARegister)) (sym passed.2)
    (refused_as c.in_err-read_state.field-0.0))
