-- What a database has beside the tables of a register (ours).
use Rattle.std.specs.Prelude.{IsTrue}
use Rattle.sqlite.specs.State.{HasCleanDisk, State}
use Rattle.vet_tables.specs.Contents.{KeepsOthers}

-- A connection that serves on a clean disk did so before. It shows the same schema, and the same rows of each table
-- that is not one of a register's
abbrev pub OthersStay : State → State → Type 0
OthersStay old new =
    HasCleanDisk new → IsTrue new.is_open → HasCleanDisk old × (IsTrue old.is_open × KeepsOthers old.now new.now)
