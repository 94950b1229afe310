-- What taking over tables of the first version leaves (ours).
use Rattle.std.specs.Prelude.{◌≡◌, ◌⊎◌, IsTrue}
use Rattle.sqlite.specs.Effect.{Database}
use Rattle.sqlite.specs.State.{IsUnchanged}
use Rattle.sqlite.specs.State as sqlite
use Rattle.sqlite_trees.specs.Tree.{Trees}
use Rattle.vet_register.specs.Sound.{IsSound}
use Rattle.vet_register.specs.State.{State}
use Rattle.vet_rows.specs.HeldState.{IsHeldState}
use Rattle.vet_rows.specs.RowsOf.{rows_by, rows_of}
use Rattle.vet_store.specs.Stands.{Holds, HoldsIn}
use Rattle.vet_tables.specs.Extends.{AddsTables}
use Rattle.vet_tables.specs.Read.{Rests}
use Rattle.vet_tables.specs.declared.table_name.TheConstants.{FIRST_TABLE_COUNT}
use Rattle.vet_tables.specs.declared.version.TablesVersion.TheVariants.{First}

-- tables of the first version became those of the second, with the rows of the same state; only the two missing tables
-- were made, and everything else is as it was
pub record TakesOver (old new : Database) (s : State) : Type 0 where
  pub was : HoldsIn First old (rows_by First s)
  pub has : Holds new (rows_of s)
  pub others : AddsTables FIRST_TABLE_COUNT old new

-- ---- a connection

-- the connection took over the tables, and is between transactions
pub record TookOver (old new : sqlite.State) (s : State) : Type 0 where
  pub was_open : IsTrue old.is_open
  pub rests : Rests new
  pub over : TakesOver old.now new.now s

-- the connection is as it was, or took over the tables
abbrev pub IsOpened : sqlite.State → sqlite.State → State → Type 0
IsOpened old new s = IsUnchanged old new ⊎ TookOver old new s

-- ---- what a crash leaves

-- what a commit may leave if the rows of this state were in tables of the first version
abbrev pub MayTakeOver : sqlite.State → State → Trees → Type 0
MayTakeOver c s trees = (db : Database)
    × ((trees ≡ db.trees) × (Rests c → HoldsIn First c.now (rows_by First s) → TakesOver c.now db s))

-- the trees of a database whose tables were taken over, with the rows of a sound state that can be held
pub record IsTakenOver (c : sqlite.State) (trees : Trees) : Type 0 where
  pub was_open : IsTrue c.is_open
  pub db : Database
  pub trees_are : trees ≡ db.trees
  pub state : State
  pub sound : IsSound state
  pub held : IsHeldState state
  pub over : TakesOver c.now db state
