use Rattle.std.proofs.Common.{Ok}
use Rattle.sqlite.specs.Held.{state}
use Rattle.vet_tables.proofs.Steps.{clears}
use Rattle.vet_tables.proofs.statements.clear.Goals as goal

pub returns-clause-changes : goal.returns-clause-changes
returns-clause-changes g c clean inside =
    clears c.args.table (state g.S.Store c.args.tx.now.conn.now) (state g.S.Store c.execute.new.self.conn.now)
    (Ok c.in_ok-execute.field-0) (rw (← c.form.ensures, ← c.clear.ensures) (c.in_ok-execute.ensures.runs clean inside))
