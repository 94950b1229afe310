-- What making a table leaves of all else (ours).
use Rattle.std.specs.Prelude.{◌≡◌, ◌⊎◌, ◌≤◌, ◌++◌, List, [], codes, ℕ}
use Rattle.sqlite.specs.Effect.{Database, IsDatabase}
use Rattle.sqlite_catalog.specs.Change.{KeepsRows}
use Rattle.sqlite_rules.specs.Lists.{Has}
use Rattle.sqlite_schema.specs.declared.schema.Index.{Index}
use Rattle.sqlite_schema.specs.declared.schema.Table.{Table}
use Rattle.sqlite_schema.specs.declared.schema.View.{View}
use Rattle.vet_base.specs.Words.{Name}
use Rattle.vet_tables.specs.Contents.{IsOther}
use Rattle.vet_tables.specs.Forms.{code, form_of}
use Rattle.vet_tables.specs.Free.{IsFree}
use Rattle.vet_tables.specs.Has.{HasTable}
use Rattle.vet_tables.specs.declared.table_name.TableName.{TableName}

-- each table, index and view that was there is, each table with its rows
pub record SparesOthers (old new : Database) : Type 0 where
  pub tables : (t : Table) → Has old.schema.tables t → Has new.schema.tables t
  pub indexes : (i : Index) → Has old.schema.indexes i → Has new.schema.indexes i
  pub views : (v : View) → Has old.schema.views v → Has new.schema.views v
  pub rows : KeepsRows old.schema.tables old.trees new.trees

-- ---- which tables are new

-- the name of the table in which SQLite counts the rows of tables with AUTOINCREMENT; it is made when it is missing
abbrev pub counting_name : Name
counting_name = codes "sqlite_sequence"

-- a table has this name, or is the one that counts rows
abbrev pub IsMadeAs : Name → Table → Type 0
IsMadeAs name t = (t.name ≡ name) ⊎ (t.name ≡ counting_name)

-- a table has the name of one of our tables from a given place on, or is the one that counts rows
abbrev pub IsMadeFrom : ℕ → Table → Type 0
IsMadeFrom first t = (name : TableName) × ((first ≤ code name) × IsMadeAs (form_of name).name t)

-- Our tables from a given place on were made, and no others. Each earlier table, index and view is still there, and no
-- new index is on an earlier table. Each table that is not one of ours keeps its rows.
pub record AddsTables (first : ℕ) (old new : Database) : Type 0 where
  pub tables : (t : Table) → Has old.schema.tables t → Has new.schema.tables t
  pub indexes : (i : Index) → Has old.schema.indexes i → Has new.schema.indexes i
  pub views : new.schema.views ≡ old.schema.views
  pub only : (t : Table) → Has new.schema.tables t → Has old.schema.tables t ⊎ IsMadeFrom first t
  pub owned : (i : Index) → Has new.schema.indexes i
      → Has old.schema.indexes i ⊎ ((t : Table) → Has old.schema.tables t → i.table ≡ t.tree → ⊥)
  pub rows : (t : Table) → Has old.schema.tables t → IsOther old.schema t → new.trees t.tree ≡ old.trees t.tree

-- ---- how they are made

-- more tables and indexes, behind those that were there
pub record Extends (old new : Database) : Type 0 where
  pub tables : List Table
  pub indexes : List Index
  pub tables_are : new.schema.tables ≡ old.schema.tables ++ tables
  pub indexes_are : new.schema.indexes ≡ old.schema.indexes ++ indexes
  pub views_are : new.schema.views ≡ old.schema.views
  -- no new table has an old tree, and no new index is on one
  pub fresh : (t : Table) → Has tables t → (u : Table) → Has old.schema.tables u → u.tree ≡ t.tree → ⊥
  pub owned : (i : Index) → Has indexes i → (u : Table) → Has old.schema.tables u → i.table ≡ u.tree → ⊥
  pub unbound : (t : Table) → Has tables t → t.references ≡ []
  pub rows : KeepsRows old.schema.tables old.trees new.trees

-- a table more, which has no row
pub record Gains (old new : Database) (name : TableName) : Type 0 where
  pub extends : Extends old new
  pub has : IsDatabase old → IsFree old.schema (form_of name).name → (has : HasTable new.schema (form_of name))
      × (new.trees has.tree ≡ [])
  pub frees : (other : TableName) → (code name ≡ code other → ⊥) → IsFree old.schema (form_of other).name
      → IsFree new.schema (form_of other).name
  pub only : (t : Table) → Has new.schema.tables t → Has old.schema.tables t ⊎ IsMadeAs (form_of name).name t
