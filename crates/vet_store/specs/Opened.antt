-- The state that the tables of a database have (ours).
use Rattle.sqlite.specs.Effect.{Database}
use Rattle.vet_register.specs.Sound.{IsSound}
use Rattle.vet_register.specs.State.{State}
use Rattle.vet_rows.specs.HeldState.{IsHeldState}
use Rattle.vet_tables.specs.Cells.{RowsValue, SameRows}
use Rattle.vet_rows.specs.RowsOf.{rows_by}
use Rattle.vet_store.specs.Stands.{HoldsIn}
use Rattle.vet_tables.specs.declared.version.TablesVersion.{TablesVersion}

-- a sound state that can be held, and that has these rows in tables of a version, in any order
pub record IsToldBy (version : TablesVersion) (rows : RowsValue) (s : State) : Type 0 where
  pub sound : IsSound s
  pub held : IsHeldState s
  pub same : SameRows rows (rows_by version s)

-- a sound state that can be held, whose rows are in tables of either version; if it is the first, the names of the two
-- other tables are free
pub record IsStored (db : Database) (s : State) : Type 0 where
  pub sound : IsSound s
  pub held : IsHeldState s
  pub version : TablesVersion
  pub holds : HoldsIn version db (rows_by version s)
