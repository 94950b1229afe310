use Rattle.std.proofs.Common.{Ok}
use Rattle.sqlite.specs.Held.{state}
use Rattle.vet_tables.proofs.Making.{makes}
use Rattle.vet_tables.proofs.statements.create.Goals as goal

pub returns-clause-makes : goal.returns-clause-makes
returns-clause-makes g c clean inside =
    makes c.args.table (state g.S.Store c.args.tx.now.conn.now)
    (state g.S.Store c.execute.new.self.conn.now) (Ok c.in_ok-execute.field-0)
    (rw (← c.form.ensures, ← c.create.ensures) (c.in_ok-execute.ensures.runs clean inside))
