-- What a transaction leaves (ours).
use Rattle.std.specs.Prelude.{◌≡◌, ⊤}
use Rattle.sqlite.specs.Effect.{Database}
use Rattle.sqlite.specs.State.{State}
use Rattle.sqlite_trees.specs.Tree.{Trees}
use Rattle.vet_tables.specs.Cells.{RowsValue}
use Rattle.vet_tables.specs.Contents.{KeepsOthers}
use Rattle.vet_store.specs.Stands.{Holds, Stands}
use Rattle.vet_store.specs.declared.change.CommitError.{CommitError}
use Rattle.vet_store.specs.declared.change.CommitError.TheVariants.{Before, Commit}

-- it stopped before the commit, so a crash shows nothing of it
abbrev pub IsBefore : CommitError → Type 0
IsBefore (Before e) = ⊤
IsBefore (Commit e) = ⊥

-- the trees of a database that has these rows
abbrev pub AreTreesOf : RowsValue → Trees → Type 0
AreTreesOf rows trees = (db : Database) × (trees ≡ db.trees) × Holds db rows

-- the same, and everything else in it is as in the database before
abbrev pub AreTreesBeside : Database → RowsValue → Trees → Type 0
AreTreesBeside before rows trees = (db : Database) × (trees ≡ db.trees) × Holds db rows × KeepsOthers before db

-- the trees of a database that has the rows after the change, and everything else as before
abbrev pub IsAfter : State → (RowsValue → RowsValue) → Trees → Type 0
IsAfter s change trees = (db : Database) × (trees ≡ db.trees)
    × ((rows : RowsValue) → Stands s rows → Holds db (change rows) × KeepsOthers s.now db)
