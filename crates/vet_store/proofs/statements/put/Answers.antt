use Rattle.vet_store.proofs.RowStatements.{lent_tells}
use Rattle.vet_store.proofs.statements.put.Goals as goal

pub put_cells-requires : goal.put_cells-requires
put_cells-requires g c = (
  c.args.row.now,
  lent_tells c.args.table c.args.row.now c.as_slice.result.now c.in_ok-cells.cells.items c.as_slice-2.result.now
      c.requires c.as_slice.ensures c.in_ok-cells.ensures c.as_slice-2.ensures.value,
)

pub returns-clause-changes : goal.returns-clause-changes
returns-clause-changes g c clean inside =
    c.put_cells.ensures.changes clean inside c.args.row.now
    (lent_tells c.args.table c.args.row.now c.as_slice.result.now c.in_ok-cells.cells.items c.as_slice-2.result.now
    c.requires c.as_slice.ensures c.in_ok-cells.ensures c.as_slice-2.ensures.value)
