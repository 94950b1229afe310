use Rattle.std.proofs.Common.{Ok}
use Rattle.sqlite.specs.Held.{state}
use Rattle.sqlite.specs.Values.{bound}
use Rattle.vet_tables.proofs.Steps.{takes}
use Rattle.vet_tables.proofs.statements.remove.Goals as goal

pub returns-clause-changes : goal.returns-clause-changes
returns-clause-changes g c clean inside =
    takes c.args.table (state g.S.Store c.args.tx.now.conn.now) (state g.S.Store c.execute.new.self.conn.now)
    (bound c.args.key.now) (Ok c.in_ok-execute.field-0)
    (rw (← c.form.ensures, ← c.delete.ensures) (c.in_ok-execute.ensures.runs clean inside))
