-- Tables whose rows cannot be read (ours).
use Rattle.sqlite.specs.Effect.{Database}
use Rattle.vet_store.specs.Readable.{AreReadable}
use Rattle.vet_tables.specs.Cells.{RowsValue, contents_of}
use Rattle.vet_tables.specs.Contents.{Shows}
use Rattle.vet_tables.specs.Forms.{form_of}
use Rattle.vet_tables.specs.Has.{HasTable}
use Rattle.vet_tables.specs.declared.table_name.TableName.{TableName}

-- there are no rows that the table has
abbrev pub IsUnread : Database → TableName → Type 0
IsUnread db name =
    (has : HasTable db.schema (form_of name)) (rows : RowsValue) → AreReadable rows
    → Shows (form_of name) (db.trees has.tree) (contents_of rows name) → ⊥
