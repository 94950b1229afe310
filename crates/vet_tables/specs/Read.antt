-- What a read of a table answers, and what it leaves (ours).
use Rattle.std.specs.Prelude.{◌≡◌, IsTrue, List, false}
use Rattle.sqlite.specs.Effect.{Database}
use Rattle.sqlite.specs.State.{State}
use Rattle.sqlite_value.specs.Order.{Row as Cells}
use Rattle.vet_tables.specs.Contents.{Shows}
use Rattle.vet_tables.specs.Forms.{form_of}
use Rattle.vet_tables.specs.Has.{HasTable}
use Rattle.vet_tables.specs.declared.table_name.TableName.{TableName}

-- the connection is open, between transactions, and all is committed
pub record Rests (s : State) : Type 0 where
  pub is_open : IsTrue s.is_open
  pub autocommit : s.in_transaction ≡ false
  pub settled : s.now ≡ s.committed

-- the rows of the table show these cells
abbrev pub AreRead : Database → TableName → List Cells → Type 0
AreRead db name cells = (has : HasTable db.schema (form_of name)) → Shows (form_of name) (db.trees has.tree) cells

-- after a call that commits nothing, a connection that serves did so before, and rests with what it had if it did so
pub record KeepsRest (old new : State) : Type 0 where
  pub was_open : IsTrue new.is_open → IsTrue old.is_open
  pub rests : IsTrue new.is_open → Rests old → Rests new
  pub same : IsTrue new.is_open → Rests old → new.now ≡ old.now
