use Rattle.std.proofs.Common.{◌∙◌, ap, sym, subst}
use Rattle.vet_base.specs.Criteria.{IsTable}
use Rattle.vet_base.specs.CriteriaChanges.{is_implied}
use Rattle.vet_base.proofs.Changes.{table_remove}
use Rattle.vet_base.proofs.criteria_table.CriteriaTable.remove.Goals as goal

pub invariant_of-self : goal.invariant_of-self
invariant_of-self c =
    subst IsTable (sym c.remove.ensures)
    (table_remove _ c.args.name c.self.invariant (sym c.is_built_in.ensures ∙ c.if-is_built_in.false)
    (ap (λ t. is_implied t c.args.name) c.self.view_is ∙ sym c.is_implied.ensures ∙ c.if-is_implied.false))

pub returns-clause-table : goal.returns-clause-table
returns-clause-table c = invariant_of-self c
