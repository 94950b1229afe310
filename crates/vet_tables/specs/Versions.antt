-- The versions of the tables (ours).
use Rattle.std.specs.Prelude.{◌<◌, ℕ, ℤ, pos}
use Rattle.sqlite_schema.specs.declared.schema.Schema.{Schema}
use Rattle.vet_tables.specs.Forms.{code, form_of}
use Rattle.vet_tables.specs.Free.{AreFreeFrom}
use Rattle.vet_tables.specs.Has.{HasTable}
use Rattle.vet_tables.specs.declared.table_name.TableName.{TableName}
use Rattle.vet_tables.specs.declared.table_name.TheConstants.{FIRST_TABLE_COUNT, TABLE_COUNT}
use Rattle.vet_tables.specs.declared.version.TablesVersion.{TablesVersion}
use Rattle.vet_tables.specs.declared.version.TablesVersion.TheVariants.{First, Second}

-- how many tables a version has: the first ones, up to this count
abbrev pub table_count : TablesVersion → ℕ
table_count First = FIRST_TABLE_COUNT
table_count Second = TABLE_COUNT

-- the number of a version, as in the row of `meta`
abbrev pub version_number : TablesVersion → ℤ
version_number First = pos 1
version_number Second = pos 2

-- the first tables are there, up to a count, and the names of the others are free
pub record HasFirst (count : ℕ) (schema : Schema) : Type 0 where
  pub has : (name : TableName) → code name < count → HasTable schema (form_of name)
  pub free : AreFreeFrom count schema

-- the tables of a version are there, and the names of the others are free
abbrev pub HasVersion : TablesVersion → Schema → Type 0
HasVersion version schema = HasFirst (table_count version) schema

-- the tables are those of some version
abbrev pub HasSomeVersion : Schema → Type 0
HasSomeVersion schema = (version : TablesVersion) × HasVersion version schema
