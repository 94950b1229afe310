-- The tables made one after another (ours).
use Rattle.std.specs.Prelude.{◌≡◌, ◌⊎◌, ◌<◌, ◌≤◌, IsTrue, [], false, ℕ}
use Rattle.sqlite.specs.Effect.{IsDatabase}
use Rattle.sqlite.specs.State.{State}
use Rattle.sqlite_catalog.specs.Change.{is_used}
use Rattle.sqlite_rules.specs.Lists.{Has}
use Rattle.sqlite_schema.specs.declared.schema.Table.{Table}
use Rattle.vet_tables.specs.Extends.{Extends, Gains, IsMadeFrom}
use Rattle.vet_tables.specs.Forms.{code, form_of}
use Rattle.vet_tables.specs.Free.{AreFreeFrom}
use Rattle.vet_tables.specs.Has.{HasTable}
use Rattle.vet_tables.specs.declared.table_name.TableName.{TableName}

-- a step inside a transaction, which makes the table and commits nothing
pub record MakesTable (old new : State) (name : TableName) : Type 0 where
  pub was_open : IsTrue old.is_open
  pub is_open : IsTrue new.is_open
  pub committed : new.committed ≡ old.committed
  pub inside : IsTrue new.in_transaction
  pub sound : IsDatabase new.now
  pub unused : is_used old.now.schema (form_of name).name ≡ false
  pub gains : Gains old.now new.now name

-- the same for the tables from one place up to another, without the latter
pub record MakesTables (old new : State) (first count : ℕ) : Type 0 where
  pub was_open : IsTrue old.is_open
  pub is_open : IsTrue new.is_open
  pub committed : new.committed ≡ old.committed
  pub inside : IsTrue new.in_transaction
  pub sound : IsDatabase old.now → IsDatabase new.now
  pub unused : (name : TableName) → first ≤ code name → code name < count
      → is_used old.now.schema (form_of name).name ≡ false
  pub extends : Extends old.now new.now
  pub has : IsDatabase old.now → AreFreeFrom first old.now.schema → (name : TableName) → first ≤ code name
      → code name < count → (has : HasTable new.now.schema (form_of name)) × (new.now.trees has.tree ≡ [])
  pub frees : AreFreeFrom first old.now.schema → AreFreeFrom count new.now.schema
  pub only : (t : Table) → Has new.now.schema.tables t → Has old.now.schema.tables t ⊎ IsMadeFrom first t
