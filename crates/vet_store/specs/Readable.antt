-- Rows as they are read from the tables (ours).
use Rattle.vet_base.specs.Items.{IsIn}
use Rattle.vet_tables.specs.Cells.{IsRowOf, Row, RowsValue, values_of}
use Rattle.vet_tables.specs.Forms.{form_of}
use Rattle.vet_tables.specs.Typed.{IsReadable}
use Rattle.vet_tables.specs.declared.table_name.TableName.{TableName}

-- a row has the columns of its table, and each text in it is UTF-8
pub record IsReadableRow (table : TableName) (row : Row) : Type 0 where
  pub fits : IsRowOf (form_of table) row
  pub texts : IsReadable (values_of row)

-- each of the rows is such a row
abbrev pub AreReadable : RowsValue → Type 0
AreReadable rows = (table : TableName) (row : Row) → IsIn row (rows table) → IsReadableRow table row
