-- What making the tables leaves (ours).
use Rattle.std.specs.Prelude.{◌≡◌, IsTrue, ℕ}
use Rattle.sqlite.specs.Effect.{Database}
use Rattle.sqlite.specs.State.{State}
use Rattle.sqlite_trees.specs.Tree.{Trees}
use Rattle.vet_tables.specs.Cells.{RowsValue}
use Rattle.vet_store.specs.Stands.{Holds, HoldsFirst, Stands}
use Rattle.vet_tables.specs.Read.{Rests}
use Rattle.vet_store.specs.Tied.{Leaves}
use Rattle.vet_tables.specs.Extends.{AddsTables, SparesOthers}
use Rattle.vet_tables.specs.Free.{AreFree, AreUnusedFrom}

-- the trees of a database that has these rows, if the connection was at rest and no name was taken
abbrev pub IsMade : State → RowsValue → Trees → Type 0
IsMade s rows trees = (db : Database) × (trees ≡ db.trees)
    × (Rests s → AreFree s.now.schema → Holds db rows × SparesOthers s.now db)

-- the trees of a database in which the tables from a given place on were made, and then rows were changed, if the
-- connection was at rest and had rows in the tables before that place
abbrev pub IsFilled : ℕ → State → (RowsValue → RowsValue) → Trees → Type 0
IsFilled first s change trees = (db : Database) × (trees ≡ db.trees)
    × ((rows : RowsValue) → Rests s → HoldsFirst first s.now rows
    → Holds db (change rows) × AddsTables first s.now db)

-- no table was made: the connection rests, and shows what it showed before
abbrev pub IsAsBefore : State → State → Type 0
IsAsBefore old new = Rests new × (new.now ≡ old.now)

-- the tables were made: they have these rows, a crash leaves them, and everything else is as it was
pub record HasMade (old new : State) (rows : RowsValue) : Type 0 where
  pub stands : Stands new rows
  pub leaves : Leaves new rows
  pub others : SparesOthers old.now new.now

-- a step inside a transaction, which makes the tables from a given place on and then changes rows
pub record FillsTables (first : ℕ) (old new : State) (change : RowsValue → RowsValue) : Type 0 where
  pub was_open : IsTrue old.is_open
  pub is_open : IsTrue new.is_open
  pub committed : new.committed ≡ old.committed
  pub inside : IsTrue new.in_transaction
  pub unused : AreUnusedFrom first old.now.schema
  pub fills : (rows : RowsValue) → HoldsFirst first old.now rows
      → Holds new.now (change rows) × AddsTables first old.now new.now
