use Rattle.sqlite.specs.Held.{state}
use Rattle.sqlite.specs.Values.{bound}
use Rattle.vet_store.proofs.RowStatements.{adds}
use Rattle.vet_store.proofs.statements.insert_cells.Goals as goal

pub returns-clause-changes : goal.returns-clause-changes
returns-clause-changes g c clean inside row tells =
    adds c.args.table row (bound c.args.cells.now) (state g.S.Store c.args.tx.now.conn.now)
    (state g.S.Store c.insert.new.tx.conn.now) tells (c.in_ok-insert.ensures.changes clean inside)
