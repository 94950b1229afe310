-- The rows of a state (ours).
use Rattle.std.specs.Prelude.{[], ◌∷◌, map}
use Rattle.vet_item_rows.specs.StandingRows.{standing_row}
use Rattle.vet_register.specs.State.{State, standing}
use Rattle.vet_rows.specs.DayRows.{rows_of_days}
use Rattle.vet_rows.specs.DemandRows.{rows_of_demand}
use Rattle.vet_rows.specs.DeskRows.{rows_of_desk}
use Rattle.vet_rows.specs.FactsRows.{rows_of_facts}
use Rattle.vet_rows.specs.MetaRow.{row_of_meta}
use Rattle.vet_rows.specs.ReadState.{meta_in}
use Rattle.vet_rows.specs.StandingRows.{move_row}
use Rattle.vet_tables.specs.Cells.{Row, RowsValue}
use Rattle.vet_tables.specs.declared.table_name.TableName.TheVariants as table
use Rattle.vet_tables.specs.declared.version.TablesVersion.{TablesVersion}
use Rattle.vet_tables.specs.declared.version.TablesVersion.TheVariants.{Second}

-- the row of `meta`
abbrev pub meta_row : State → Row
meta_row s = row_of_meta (meta_in Second s)

-- All rows in tables of a version, whose number is in the row of `meta`. Tables of the first version can hold only a
-- state that has no rows in the tables of days (`HoldsIn` of vet_store).
abbrev pub rows_by : TablesVersion → State → RowsValue
rows_by version s table.Meta = row_of_meta (meta_in version s) ∷ []
rows_by version s (table.Facts t) = rows_of_facts s.held.facts t
rows_by version s (table.Demand t) = rows_of_demand s.held t
rows_by version s table.Standing = map standing_row (standing s)
rows_by version s table.Moves = map move_row s.moves
rows_by version s (table.Desk t) = rows_of_desk s.desk t
rows_by version s (table.Days t) = rows_of_days s.held.facts t

-- all rows, in tables of the second version
abbrev pub rows_of : State → RowsValue
rows_of s = rows_by Second s
