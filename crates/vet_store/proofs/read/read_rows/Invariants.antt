-- The tables so far were read, and the connection is as it was.
use Rattle.std.proofs.Common.{◌≡◌, ◌<◌, false, length}
use Rattle.sqlite.specs.Held.{state}
use Rattle.sqlite.specs.State.{HasCleanDisk, IsUnchanged, Survives}
use Rattle.vet_store.proofs.ReadRows.{IsReadAt}
use Rattle.vet_store.proofs.read.read_rows.Given as goal
use Rattle.vet_tables.specs.Forms.{code}
use Rattle.vet_tables.specs.Read.{KeepsRest}
use Rattle.vet_tables.specs.declared.table_name.TableName.{TableName}

abbrev pub invariant-tables : goal.invariant-tables
invariant-tables g l = record {
  start : l.at ≡ 0 → l.conn ≡ l.fn.conn;
  same : HasCleanDisk (state g.S.Store l.conn) → 0 < l.at
      → IsUnchanged (state g.S.Store l.fn.conn) (state g.S.Store l.conn);
  kept : HasCleanDisk (state g.S.Store l.conn) → KeepsRest (state g.S.Store l.fn.conn) (state g.S.Store l.conn);
  mode : l.fn.conn.in_transaction ≡ false → l.conn.in_transaction ≡ false;
  survives : Survives (state g.S.Store l.fn.conn) (state g.S.Store l.conn) (λ _. ⊥);
  read : HasCleanDisk (state g.S.Store l.conn) → (n : TableName) → code n < l.at
      → IsReadAt (state g.S.Store l.fn.conn).now l.rows.tables.items n;
  long : length l.rows.tables.items ≡ l.at;
}
