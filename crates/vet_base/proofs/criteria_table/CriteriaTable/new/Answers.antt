use Rattle.vet_base.proofs.BuiltIn.{first_table}
use Rattle.vet_base.proofs.criteria_table.CriteriaTable.new.Goals as goal

pub invariant_of-result : goal.invariant_of-result
invariant_of-result c = rw c.in_ok-new.ensures.ok first_table

pub returns-clause-table : goal.returns-clause-table
returns-clause-table c = invariant_of-result c
