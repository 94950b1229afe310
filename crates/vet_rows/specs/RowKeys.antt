-- The keys of rows (ours).
use Rattle.std.specs.Prelude.{◌≡◌, true}
use Rattle.vet_base.specs.Items.{IsIn}
use Rattle.vet_tables.specs.Cells.{Row, RowsValue, same_key}
use Rattle.vet_tables.specs.Forms.{form_of}
use Rattle.vet_tables.specs.declared.table_name.TableName.{TableName}

-- no two rows of a table have the same key
abbrev pub KeysDiffer : RowsValue → Type 0
KeysDiffer rows = (table : TableName) (r s : Row) → IsIn r (rows table) → IsIn s (rows table)
    → same_key (form_of table) r s ≡ true → r ≡ s
