use Rattle.std.proofs.Common.{◌≡◌, ◌⊎◌, ◌≤◌, IsTrue}
use Rattle.sqlite.specs.Held.{state}
use Rattle.sqlite.specs.State.{HasCleanDisk, KeepsCommit, Survives}
use Rattle.vet_tables.proofs.statements.create_from.Given as goal
use Rattle.vet_tables.specs.Makes.{MakesTables}
use Rattle.vet_tables.specs.declared.table_name.TheConstants.{TABLE_COUNT}

abbrev pub invariant-tables : goal.invariant-tables
invariant-tables g l = record {
  begun : l.first ≤ l.at;
  within : l.at ≤ TABLE_COUNT;
  same_reference : l.tx.conn.ghost_name ≡ l.fn.tx.conn.ghost_name;
  kept : HasCleanDisk (state g.S.Store l.tx.conn.now)
      → KeepsCommit (state g.S.Store l.fn.tx.conn.now) (state g.S.Store l.tx.conn.now);
  survives : Survives (state g.S.Store l.fn.tx.conn.now) (state g.S.Store l.tx.conn.now) (λ _. ⊥);
  makes : HasCleanDisk (state g.S.Store l.tx.conn.now) → IsTrue (state g.S.Store l.fn.tx.conn.now).is_open
      → IsTrue l.fn.tx.conn.now.in_transaction
      → MakesTables (state g.S.Store l.fn.tx.conn.now) (state g.S.Store l.tx.conn.now) l.first l.at;
  opens : HasCleanDisk (state g.S.Store l.tx.conn.now) → IsTrue l.fn.tx.conn.now.in_transaction
      → ((l.at ≡ l.first) × (l.tx.conn.now ≡ l.fn.tx.conn.now)) ⊎ IsTrue (state g.S.Store l.fn.tx.conn.now).is_open;
}
