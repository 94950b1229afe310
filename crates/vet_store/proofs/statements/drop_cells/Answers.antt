use Rattle.sqlite.specs.Held.{state}
use Rattle.sqlite.specs.Values.{bound}
use Rattle.vet_store.proofs.RowStatements.{takes}
use Rattle.vet_store.proofs.statements.drop_cells.Goals as goal

pub returns-clause-changes : goal.returns-clause-changes
returns-clause-changes g c clean inside row tells =
    takes c.args.table row (bound c.key_cells.result.now) (state g.S.Store c.args.tx.now.conn.now)
    (state g.S.Store c.remove.new.tx.conn.now) (c.key_cells.ensures row tells)
    (c.in_ok-remove.ensures.changes clean inside)
