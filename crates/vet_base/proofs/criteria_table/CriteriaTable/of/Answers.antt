use Rattle.std.proofs.lemmas.Result.{err_from_is_err_and}
use Rattle.vet_base.proofs.DefinedLaws.{told_is_table}
use Rattle.vet_base.proofs.criteria_table.CriteriaTable.of.Goals as goal

pub returns-in_err-check_defined-clause-told : goal.returns-in_err-check_defined-clause-told
returns-in_err-check_defined-clause-told c =
    let passed = err_from_is_err_and c.from_residual.result c.from_residual.ensures.1 in
    rw (passed.1, passed.2) (rw c.as_slice.ensures.value at c.in_err-check_defined.ensures)

pub invariant_of-result : goal.invariant_of-result
invariant_of-result c =
    rw c.in_ok-with_built_in.ensures.ok
    (told_is_table c.args.criteria.items (rw c.as_slice.ensures.value at c.in_ok-check_defined.ensures))

pub returns-clause-table : goal.returns-clause-table
returns-clause-table c = invariant_of-result c
