-- Whether the names of the tables are free (ours).
use Rattle.std.specs.Prelude.{◌≡◌, ◌≤◌, ℕ, false, true}
use Rattle.std.specs.List.{list_all}
use Rattle.sqlite_catalog.specs.Change.{is_used}
use Rattle.sqlite_schema.specs.declared.schema.Schema.{Schema}
use Rattle.vet_base.specs.Words.{Name}
use Rattle.vet_tables.specs.Forms.{code, form_of}
use Rattle.vet_tables.specs.Has.{refers_not}
use Rattle.vet_tables.specs.declared.table_name.TableName.{TableName}

-- no table, index or view has the name, in any case of its ASCII letters, and no foreign key refers to it
pub record IsFree (schema : Schema) (name : Name) : Type 0 where
  pub unused : is_used schema name ≡ false
  pub unreferred : list_all (refers_not name) schema.tables ≡ true

-- the names of the tables from a given place on are free
abbrev pub AreFreeFrom : ℕ → Schema → Type 0
AreFreeFrom first schema = (name : TableName) → first ≤ code name → IsFree schema (form_of name).name

-- no table, index or view has the name of one of the tables from a given place on, in any case of its ASCII letters
abbrev pub AreUnusedFrom : ℕ → Schema → Type 0
AreUnusedFrom first schema = (name : TableName) → first ≤ code name → is_used schema (form_of name).name ≡ false

-- the names of all tables are free
abbrev pub AreFree : Schema → Type 0
AreFree schema = AreFreeFrom 0 schema
