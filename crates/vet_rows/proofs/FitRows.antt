-- The rows of a state have the columns of their tables.
use Rattle.std.proofs.Common.{List, map}
use Rattle.vet_graph.specs.declared.standing.Stand.{Stand}
use Rattle.vet_item_rows.specs.StandingRows.{standing_row}
use Rattle.vet_register.specs.State.{State, standing}
use Rattle.vet_register.specs.declared.moves.RecordedMove.{RecordedMove}
use Rattle.vet_rows.proofs.FitDays.{days_rows_fit}
use Rattle.vet_rows.proofs.FitDemand.{demand_rows_fit}
use Rattle.vet_rows.proofs.FitDesk.{desk_rows_fit}
use Rattle.vet_rows.proofs.FitFacts.{facts_rows_fit}
use Rattle.vet_rows.proofs.FitLists.{AreRows, mapped_fit, one_fit}
use Rattle.vet_rows.specs.RowsOf.{rows_by}
use Rattle.vet_rows.specs.StandingChanges.{moved_row}
use Rattle.vet_rows.specs.StandingRows.{move_row}
use Rattle.vet_tables.specs.Cells.{IsRowOf}
use Rattle.vet_tables.specs.Forms.{form_of}
use Rattle.vet_tables.specs.declared.table_name.TableName.{TableName}
use Rattle.vet_tables.specs.declared.table_name.TableName.TheVariants as table
use Rattle.vet_tables.specs.declared.version.TablesVersion.{TablesVersion}

-- ---- the standing and moves

pub stand_fits : (s : Stand) → IsRowOf (form_of table.Standing) (standing_row s)
stand_fits s = (tt, (tt, (tt, (tt, tt))))

pub standing_fit : (stands : List Stand) → AreRows table.Standing (map standing_row stands)
standing_fit = mapped_fit table.Standing standing_row stand_fits

pub moved_fits : (m : RecordedMove) → IsRowOf (form_of table.Standing) (moved_row m)
moved_fits m = (tt, (tt, (tt, (tt, tt))))

pub moved_fit : (moves : List RecordedMove) → AreRows table.Standing (map moved_row moves)
moved_fit = mapped_fit table.Standing moved_row moved_fits

pub move_fits : (m : RecordedMove) → IsRowOf (form_of table.Moves) (move_row m)
move_fits m = (tt, (tt, (tt, (tt, (tt, (tt, (tt, tt)))))))

pub moves_fit : (moves : List RecordedMove) → AreRows table.Moves (map move_row moves)
moves_fit = mapped_fit table.Moves move_row move_fits

-- ---- all rows of a state

meta_fits : (version : TablesVersion) (s : State) → AreRows table.Meta (rows_by version s table.Meta)
meta_fits version s =
    one_fit table.Meta _ (tt, (tt, (tt, (tt, (tt, (tt, (tt, (tt, (tt, (tt, (tt, (tt, (tt, tt)))))))))))))

pub rows_fit : (version : TablesVersion) (s : State) (table : TableName) → AreRows table (rows_by version s table)
rows_fit version s table.Meta = meta_fits version s
rows_fit version s (table.Facts t) = facts_rows_fit s.held.facts t
rows_fit version s (table.Demand t) = demand_rows_fit s.held t
rows_fit version s table.Standing = standing_fit (standing s)
rows_fit version s table.Moves = moves_fit s.moves
rows_fit version s (table.Desk t) = desk_rows_fit s.desk t
rows_fit version s (table.Days t) = days_rows_fit s.held.facts t
