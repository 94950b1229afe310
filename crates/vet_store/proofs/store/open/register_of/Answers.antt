use Rattle.std.proofs.Common.{◌≡◌, ◌⊎◌, ◌∙◌, IfErr, IfOk, inl, inr, refl, subst, sym}
use Rattle.vet_base.specs.declared.refusal.Refusal.{Refusal}
use Rattle.vet_base.specs.declared.refusal.Refusal.TheVariants.{NoMemory, NotARegister}
use Rattle.vet_register.specs.Sound.{IsSound}
use Rattle.vet_register.specs.State as machine
use Rattle.vet_rows.specs.HeldState.{IsHeldState}
use Rattle.vet_rows.specs.RowsOf.{rows_by}
use Rattle.vet_store.specs.Opened.{IsToldBy}
use Rattle.vet_store.proofs.Opening.{by_same_rows, read_is}
use Rattle.vet_store.proofs.store.open.register_of.Goals as goal
use Rattle.vet_tables.specs.Cells.{SameRows, rows_in}

pub returns-in_err-state-clause-none : goal.returns-in_err-state-clause-none
returns-in_err-state-clause-none g c is t told =
    let memory = rw c.in_err-state.was at
    (read_is c.args.version (rows_in c.args.rows.now) c.state_of.result c.state_of.ensures.back t told) in
    let error = rw is at c.from_residual.ensures.1 in
    cc

pub returns-in_err-register-clause-none : goal.returns-in_err-register-clause-none
returns-in_err-register-clause-none g c is t told =
    let read = rw c.in_ok-state.was at
    (read_is c.args.version (rows_in c.args.rows.now) c.state_of.result c.state_of.ensures.back t told) in
    let error = rw is at c.from_residual-in_err-register.ensures.1 in
    elim c.in_err-register.ensures.refused [
      | inl memory ↦ cc
      | inr unsound ↦ unsound.1 (subst IsSound (sym read) told.sound)
    ]

pub returns-clause-held : goal.returns-clause-held
returns-clause-held g c =
    by_same_rows c.in_ok-same.same c.in_ok-register.register c.register_if.result c.register_if.ensures
    (λ answer. IfOk answer (λ r. IsHeldState r.state)) (λ _. c.register_is_held.ensures) tt

pub returns-clause-found : goal.returns-clause-found
returns-clause-found g c =
    by_same_rows c.in_ok-same.same c.in_ok-register.register c.register_if.result c.register_if.ensures
    (λ answer. IfOk answer (λ r. SameRows (rows_in c.args.rows.now) (rows_by c.args.version r.state)))
    (λ same. subst (SameRows (rows_in c.args.rows.now)) c.in_ok-again.ensures.ok (c.in_ok-same.ensures.0 same)) tt

pub returns-clause-only : goal.returns-clause-only
returns-clause-only g c =
    by_same_rows c.in_ok-same.same c.in_ok-register.register c.register_if.result c.register_if.ensures
    (λ answer. IfOk answer (λ r.
    (t : machine.State) → IsToldBy c.args.version (rows_in c.args.rows.now) t → r.state ≡ t))
    (λ same t told.
    let read = rw c.in_ok-state.was at
    (read_is c.args.version (rows_in c.args.rows.now) c.state_of.result c.state_of.ensures.back t told) in
    c.in_ok-register.ensures.ok ∙ read) tt

pub returns-clause-refused : goal.returns-clause-refused
returns-clause-refused g c =
    by_same_rows c.in_ok-same.same c.in_ok-register.register c.register_if.result c.register_if.ensures
    (λ answer. IfErr answer (λ (e : Refusal). (e ≡ NoMemory) ⊎ (e ≡ NotARegister))) (λ _. tt) (inr refl)

pub returns-clause-none : goal.returns-clause-none
returns-clause-none g c is t told =
    let rows = rows_in c.args.rows.now in
    let read = rw c.in_ok-state.was at (read_is c.args.version rows c.state_of.result c.state_of.ensures.back t told) in
    let register = c.in_ok-register.ensures.ok ∙ read in
    let again = subst (λ (s : machine.State). SameRows rows (rows_by c.args.version s)) (sym register) told.same in
    let same = c.in_ok-same.ensures.1 (subst (SameRows rows) (sym c.in_ok-again.ensures.ok) again) in
    let answer = rw same at c.register_if.ensures in
    cc
