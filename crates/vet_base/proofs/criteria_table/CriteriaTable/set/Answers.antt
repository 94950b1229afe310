use Rattle.std.proofs.Common.{sym, subst}
use Rattle.std.proofs.lemmas.Result.{err_from_is_err_and}
use Rattle.vet_base.specs.Criteria.{IsTable}
use Rattle.vet_base.proofs.Changes.{MaySet, table_insert}
use Rattle.vet_base.proofs.Kept.{no_verdict, told_verdict, may_set, either_end}
use Rattle.vet_base.proofs.criteria_table.CriteriaTable.set.Goals as goal

pub returns-in_err-check_set-clause-refused : goal.returns-in_err-check_set-clause-refused
returns-in_err-check_set-clause-refused c =
    let passed = err_from_is_err_and c.from_residual.result c.from_residual.ensures.1 in
    rw (passed.1, passed.2) (told_verdict _ _ c.in_err-check_set.ensures)

pub invariant_of-self : goal.invariant_of-self
invariant_of-self c =
    let may = subst (λ t. MaySet t c.args.criterion) (sym c.self.view_is)
    (may_set c.args.self.now c.args.criterion (no_verdict _ c.in_ok-check_set.ensures)) in
    either_end c.set.result c.set.ensures.ok c.set.ensures.ok c.set.ensures.err c.set.ensures.err
    (λ a _. subst IsTable (sym a) (table_insert _ c.args.criterion c.self.invariant may))
    (λ a _. subst IsTable (sym a) c.self.invariant)

pub returns-clause-table : goal.returns-clause-table
returns-clause-table c = invariant_of-self c
