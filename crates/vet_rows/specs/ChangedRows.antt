-- The rows that a change of a register removes and adds (ours).
use Rattle.std.specs.Prelude.{◌++◌, List, [], ◌∷◌}
use Rattle.vet_register.specs.Changes.{changed}
use Rattle.vet_register.specs.State.{State}
use Rattle.vet_register.specs.declared.change.Change.{Change}
use Rattle.vet_rows.specs.DayChanges.{day_exchanges}
use Rattle.vet_rows.specs.DeskChanges.{desk_exchanges}
use Rattle.vet_rows.specs.HeldChanges.{held_exchanges}
use Rattle.vet_rows.specs.RowExchanges.{exchange_of}
use Rattle.vet_rows.specs.RowsOf.{meta_row}
use Rattle.vet_rows.specs.StandingChanges.{move_exchanges}
use Rattle.vet_rows.specs.declared.row_changes.exchange.Exchange.{Exchange}
use Rattle.vet_tables.specs.declared.table_name.TableName.TheVariants as table

-- the one row of `meta` is put in place of the one that is there
abbrev pub meta_exchange : {K U : Type 0} → State → Change K U → Exchange
meta_exchange s change = exchange_of table.Meta [] (meta_row (changed change s) ∷ [])

-- the exchanges of `meta`, of what is held, of the standing and moves, of the desk, and of days: no two are of one
-- table
abbrev pub change_exchanges : {K U : Type 0} → State → Change K U → List Exchange
change_exchanges s change =
    (((meta_exchange s change ∷ held_exchanges change.edit s.held) ++ move_exchanges change.recording)
    ++ desk_exchanges change.desk s.desk)
    ++ day_exchanges change.edit s.held
