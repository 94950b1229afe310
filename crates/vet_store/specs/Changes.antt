-- What a statement inside a transaction does to the rows (ours).
use Rattle.std.specs.Prelude.{◌≡◌, IsTrue}
use Rattle.sqlite.specs.State.{State}
use Rattle.sqlite_value.specs.Order.{Row as Values}
use Rattle.vet_store.specs.Stands.{Holds}
use Rattle.vet_tables.specs.Cells.{IsRowOf, Row, RowsValue, values_of}
use Rattle.vet_tables.specs.Contents.{KeepsOthers}
use Rattle.vet_tables.specs.Forms.{form_of}
use Rattle.vet_tables.specs.Has.{HasTables}
use Rattle.vet_tables.specs.declared.table_name.TableName.{TableName}

-- values are the cells of a row of a table
pub record TellsRow (table : TableName) (row : Row) (values : Values) : Type 0 where
  pub fits : IsRowOf (form_of table) row
  pub are : values ≡ values_of row

-- the rows are changed so, and nothing is committed
pub record Changes (old new : State) (change : RowsValue → RowsValue) : Type 0 where
  pub was_open : IsTrue old.is_open
  pub is_open : IsTrue new.is_open
  pub committed : new.committed ≡ old.committed
  pub inside : IsTrue new.in_transaction
  pub holds : (rows : RowsValue) → Holds old.now rows → Holds new.now (change rows)
  pub spares : HasTables old.now.schema → KeepsOthers old.now new.now
