-- Whether a schema has the tables, whatever else it has (ours).
use Rattle.std.specs.Prelude.{◌≡◌, Bool, Some, not, slice_get, true, ◌||◌, ◌==◌, ℕ, bytes_eq}
use Rattle.std.specs.List.{list_all}
use Rattle.sqlite_schema.specs.Names.{same_name, table_named}
use Rattle.sqlite_schema.specs.declared.schema.Index.{Index}
use Rattle.sqlite_schema.specs.declared.schema.Reference.{Reference}
use Rattle.sqlite_schema.specs.declared.schema.Schema.{Schema}
use Rattle.sqlite_schema.specs.declared.schema.Table.{Table}
use Rattle.vet_base.specs.Words.{Name}
use Rattle.vet_tables.specs.Form.{TableForm, key_index, table_of}
use Rattle.vet_tables.specs.Forms.{form_of}
use Rattle.vet_tables.specs.declared.table_name.TableName.{TableName}

-- an index of another table, or that of the key
abbrev pub spares : TableForm → ℕ → Index → Bool
spares form tree index = not (index.table == tree) || bytes_eq index.name (key_index form)

-- the table has another tree, or this very name
abbrev pub is_apart : TableForm → ℕ → Table → Bool
is_apart form tree table = not (table.tree == tree) || bytes_eq table.name form.name

abbrev pub refers_not : Name → Table → Bool
refers_not name table = list_all (λ (ref : Reference). not (same_name name ref.parent)) table.references

-- A table of this form exists under its name, with a tree of its own. No index but that of its key and no foreign key
-- touch it. SQL here does not reach a table that a trigger touches.
pub record HasTable (schema : Schema) (form : TableForm) : Type 0 where
  pub at : ℕ
  pub tree : ℕ
  pub named : table_named schema form.name ≡ Some at
  pub there : slice_get schema.tables at ≡ Some (table_of form tree)
  pub alone : list_all (is_apart form tree) schema.tables ≡ true
  pub unindexed : list_all (spares form tree) schema.indexes ≡ true
  pub unreferred : list_all (refers_not form.name) schema.tables ≡ true

-- all fourteen
abbrev pub HasTables : Schema → Type 0
HasTables schema = (name : TableName) → HasTable schema (form_of name)
