use Rattle.std.proofs.Common.{◌≡◌, false, ap, sym, ◌∙◌, List, ℕ, Option, None, Err, inl, inr, refl}
use Rattle.std.proofs.lemmas.Result.{err_from_is_err_and}
use Rattle.vet_base.specs.declared.refusal.Refusal.TheVariants.{UnknownCriterion}
use Rattle.vet_base.specs.CriteriaChanges.{is_built_in, is_full_for, unknown_beside}
use Rattle.vet_base.proofs.Kept.{verdict_full, verdict_room}
use Rattle.vet_base.proofs.criteria_table.CriteriaTable.check_set.Goals as goal

pub returns-then-is_full_for : goal.returns-then-is_full_for
returns-then-is_full_for c =
    rw (verdict_full c.args.self.now c.args.criterion.now (sym c.is_full_for.ensures ∙ c.if-is_full_for.true)) refl

pub returns-in_err-clone : goal.returns-in_err-clone
returns-in_err-clone c =
    let room : is_full_for c.args.self.now c.args.criterion.now.name ≡ false =
    sym c.is_full_for.ensures ∙ c.if-is_full_for.false in
    let passed = err_from_is_err_and c.from_residual.result c.from_residual.ensures.1 in
    rw (verdict_room c.args.self.now c.args.criterion.now room, ← c.in-Some.ensures) (inr (passed.1 ∙ ap Err passed.2))

pub returns-in-Some : goal.returns-in-Some
returns-in-Some c =
    let room : is_full_for c.args.self.now c.args.criterion.now.name ≡ false =
    sym c.is_full_for.ensures ∙ c.if-is_full_for.false in
    let h = c.in_ok-clone.ensures.cases in
    let copy = sym h.3 ∙ sym h.4.3 ∙ h.4.4 ∙ h.4.2 ∙ h.2 in
    rw (verdict_room c.args.self.now c.args.criterion.now room, ← c.in-Some.ensures)
    (inl (ap (λ n. Err (UnknownCriterion n)) copy))

pub returns : goal.returns
returns c =
    let table = c.args.self.now in
    let own = c.args.criterion.now in
    let room : is_full_for table own.name ≡ false = sym c.is_full_for.ensures ∙ c.if-is_full_for.false in
    let known : ◌≡◌ {A = Option (List ℕ)} (unknown_beside table own) None = sym c.in_default.ensures in
    let built : is_built_in own.name ≡ false = sym c.is_built_in.ensures ∙ c.if-is_built_in.false in
    rw (verdict_room table own room, known, built) refl
