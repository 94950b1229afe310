use Rattle.std.proofs.Common.{arith}
use Rattle.std.proofs.lemmas.Result.{on_ok_weaker}
use Rattle.sqlite.specs.Held.{state}
use Rattle.sqlite.specs.State.{HasCleanDisk}
use Rattle.vet_store.proofs.Steps.{puts}
use Rattle.vet_store.proofs.statements.put_cells.Goals as goal

pub returns-clause-changes : goal.returns-clause-changes
returns-clause-changes g c clean inside row tells =
    let a = state g.S.Store c.args.tx.now.conn.now in
    let b = state g.S.Store c.drop_cells.new.tx.conn.now in
    let d = state g.S.Store c.insert_cells.new.tx.conn.now in
    let early : HasCleanDisk b = omega (arith, c.insert_cells.ensures.survives.clean) in
    let first = c.in_ok-drop_cells.ensures.changes early inside row tells in
    on_ok_weaker c.insert_cells.result (puts c.args.table row a b d first)
    (c.insert_cells.ensures.changes clean first.inside row tells)
