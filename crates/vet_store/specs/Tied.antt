-- How the tables belong to the register (ours).
use Rattle.std.specs.Prelude.{◌≡◌, Bool, false, IsTrue}
use Rattle.sqlite_trees.specs.Tree.{Trees}
use Rattle.sqlite.specs.Effect.{Database}
use Rattle.sqlite.specs.State.{HasCleanDisk}
use Rattle.sqlite.specs.State as sqlite
use Rattle.vet_tables.specs.Cells.{RowsValue}
use Rattle.vet_tables.specs.Contents.{KeepsOthers}
use Rattle.vet_store.specs.Committed.{AreTreesOf}
use Rattle.vet_store.specs.Stands.{Holds, Stands}

-- a crash leaves these rows in the tables
abbrev pub Leaves : sqlite.State → RowsValue → Type 0
Leaves c rows = (trees : Trees) → c.may_leave trees → AreTreesOf rows trees

-- No transaction is open. If the disk returned what was written, then the tables have these rows as long as the
-- connection serves, and a crash leaves them while the store is not shut.
pub record IsTied (c : sqlite.State) (shut : Bool) (rows : RowsValue) : Type 0 where
  pub autocommit : c.in_transaction ≡ false
  pub stands : HasCleanDisk c → IsTrue c.is_open → Stands c rows
  pub leaves : HasCleanDisk c → shut ≡ false → Leaves c rows

-- what a commit of some rows in place of others may leave, if the tables had these others
abbrev pub IsWritten : sqlite.State → RowsValue → RowsValue → Trees → Type 0
IsWritten c rows next trees = (db : Database) × (trees ≡ db.trees)
    × (Stands c rows → Holds db next × KeepsOthers c.now db)
