use Rattle.std.proofs.Common.{Ok}
use Rattle.sqlite.specs.Held.{state}
use Rattle.sqlite.specs.Values.{bound}
use Rattle.vet_tables.proofs.Steps.{adds}
use Rattle.vet_tables.proofs.statements.insert.Goals as goal

pub returns-clause-changes : goal.returns-clause-changes
returns-clause-changes g c clean inside sorts =
    adds c.args.table (state g.S.Store c.args.tx.now.conn.now) (state g.S.Store c.execute.new.self.conn.now)
    (bound c.args.cells.now) sorts (Ok c.in_ok-execute.field-0)
    (rw (← c.form.ensures, ← c.insert.ensures) (c.in_ok-execute.ensures.runs clean inside))
