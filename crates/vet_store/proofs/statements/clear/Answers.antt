use Rattle.sqlite.specs.Held.{state}
use Rattle.vet_store.proofs.RowStatements.{clears}
use Rattle.vet_store.proofs.statements.clear.Goals as goal

pub returns-clause-changes : goal.returns-clause-changes
returns-clause-changes g c clean inside =
    clears c.args.table (state g.S.Store c.args.tx.now.conn.now) (state g.S.Store c.clear.new.tx.conn.now)
    (c.in_ok-clear.ensures.changes clean inside)
