-- The rows of the tables of days (ours).
use Rattle.std.specs.Prelude.{List}
use Rattle.std.specs.List.{flat_map}
use Rattle.vet_entries.specs.Facts.{Facts}
use Rattle.vet_item_rows.specs.DayRows.{last_rows, today_rows}
use Rattle.vet_tables.specs.Cells.{Row}
use Rattle.vet_tables.specs.declared.table_name.DaysTable.{DaysTable}
use Rattle.vet_tables.specs.declared.table_name.DaysTable.TheVariants.{Lasts, Today}

-- the rows of all last days
abbrev pub all_last_rows : Facts → List Row
all_last_rows facts = flat_map last_rows facts.entries

-- the rows of each table of days
abbrev pub rows_of_days : Facts → DaysTable → List Row
rows_of_days facts Today = today_rows facts.today
rows_of_days facts Lasts = all_last_rows facts
