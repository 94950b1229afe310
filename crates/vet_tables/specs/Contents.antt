-- What the tables hold, and what a statement changes in them (ours).
use Rattle.std.specs.Prelude.{◌≡◌, ◌<◌, ◌≤◌, ◌==◌, ◌∷◌, [], IsTrue, List, filter, if◌then◌else◌, map, not, ℕ}
use Rattle.sqlite.specs.Effect.{Database, IsDatabase}
use Rattle.sqlite.specs.State.{State}
use Rattle.sqlite_rules.specs.Lists.{Has}
use Rattle.sqlite_schema.specs.declared.schema.Schema.{Schema}
use Rattle.sqlite_schema.specs.declared.schema.Table.{Table}
use Rattle.sqlite_value.specs.Order.{Row as Cells}
use Rattle.vet_base.specs.Items.{SameItems}
use Rattle.vet_tables.specs.Form.{TableForm, shown}
use Rattle.vet_tables.specs.Forms.{code, form_of}
use Rattle.vet_tables.specs.Has.{HasTables}
use Rattle.vet_tables.specs.Keyed.{is_keyed}
use Rattle.vet_tables.specs.Numbered.{AreNumbered}
use Rattle.vet_tables.specs.Versions.{HasFirst}
use Rattle.vet_tables.specs.declared.table_name.TableName.{TableName}

-- the cells of the rows of each table
abbrev pub Contents : Type 0
Contents = TableName → List Cells

-- the rows of a tree show these cells, as a set
pub record Shows (form : TableForm) (tree : List Cells) (cells : List Cells) : Type 0 where
  pub numbered : AreNumbered tree
  pub same : SameItems cells (map (shown form) tree)

-- the database is sound and has all tables, each with these rows as a set, whatever else it has
pub record HasContents (db : Database) (contents : Contents) : Type 0 where
  pub sound : IsDatabase db
  pub has : HasTables db.schema
  pub shows : (name : TableName) → Shows (form_of name) (db.trees (has name).tree) (contents name)

-- The database is sound and has the first tables, up to a count, each with these rows as a set, whatever else it has.
-- The names of the other tables are free, and there are no rows for them.
pub record HasFirstContents (count : ℕ) (db : Database) (contents : Contents) : Type 0 where
  pub sound : IsDatabase db
  pub first : HasFirst count db.schema
  pub shows : (name : TableName) (low : code name < count)
      → Shows (form_of name) (db.trees (first.has name low).tree) (contents name)
  pub none : (name : TableName) → count ≤ code name → contents name ≡ []

-- one row more, whatever its key
abbrev pub added : TableName → Cells → Contents → Contents
added table cells contents name = if code name == code table then cells ∷ contents name else contents name

-- without the rows of a key
abbrev pub dropped : TableName → Cells → Contents → Contents
dropped table key contents name =
    if code name == code table then filter (λ cells. not (is_keyed (form_of name) key cells)) (contents name)
    else contents name

-- without any row
abbrev pub cleared : TableName → Contents → Contents
cleared table contents name = if code name == code table then [] else contents name

-- its rows are in no tree of ours
abbrev pub IsOther : Schema → Table → Type 0
IsOther schema t = (name : TableName) (own : Table) → Has schema.tables own → own.name ≡ (form_of name).name
    → t.tree ≡ own.tree → ⊥

-- the schema stays, and so do the rows of the other tables
pub record KeepsOthers (old new : Database) : Type 0 where
  pub schema : new.schema ≡ old.schema
  pub rows : (t : Table) → Has old.schema.tables t → IsOther old.schema t → new.trees t.tree ≡ old.trees t.tree

-- inside a transaction, the contents are changed so, and nothing is committed
pub record Changes (old new : State) (change : Contents → Contents) : Type 0 where
  pub was_open : IsTrue old.is_open
  pub is_open : IsTrue new.is_open
  pub committed : new.committed ≡ old.committed
  pub inside : IsTrue new.in_transaction
  pub holds : (contents : Contents) → HasContents old.now contents → HasContents new.now (change contents)
  pub spares : HasTables old.now.schema → KeepsOthers old.now new.now
