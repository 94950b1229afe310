-- The rows of last days and of the register's day that an edit removes and adds (ours). They come after those of all
-- other tables.
use Rattle.std.specs.Prelude.{List, [], ◌∷◌}
use Rattle.std.specs.List.{slice_get}
use Rattle.vet_entries.specs.Facts.{Facts}
use Rattle.vet_entries.specs.declared.facts.Edit.{Edit}
use Rattle.vet_entries.specs.declared.facts.Edit.TheVariants as edit
use Rattle.vet_item_rows.specs.DayRows.{last_rows, today_rows}
use Rattle.vet_register.specs.declared.held.HeldEdit.{HeldEdit}
use Rattle.vet_register.specs.declared.held.HeldEdit.TheVariants as held
use Rattle.vet_register.specs.Held.{HeldValue}
use Rattle.vet_rows.specs.DayRows.{all_last_rows}
use Rattle.vet_rows.specs.KeyedItems.{rows_if}
use Rattle.vet_rows.specs.RowExchanges.{exchange_of}
use Rattle.vet_rows.specs.declared.row_changes.exchange.Exchange.{Exchange}
use Rattle.vet_tables.specs.declared.table_name.DaysTable.TheVariants.{Lasts, Today}
use Rattle.vet_tables.specs.declared.table_name.TableName.TheVariants as table

-- the last day of an own entry is added and removed with it
abbrev pub fact_day_exchanges : Edit → Facts → List Exchange
fact_day_exchanges (edit.Insert place entry) facts = exchange_of (table.Days Lasts) [] (last_rows entry) ∷ []
fact_day_exchanges (edit.Remove place) facts =
    exchange_of (table.Days Lasts) (rows_if last_rows (slice_get facts.entries place)) [] ∷ []
fact_day_exchanges (edit.Today day) facts =
    exchange_of (table.Days Today) (today_rows facts.today) (today_rows day) ∷ []
fact_day_exchanges _ facts = []

-- if all files are replaced, all rows are removed, except that those that would be added again stay, as for entries
abbrev pub day_exchanges : HeldEdit → HeldValue → List Exchange
day_exchanges (held.Facts change) h = fact_day_exchanges change h.facts
day_exchanges (held.Files files) h =
    exchange_of (table.Days Today) (today_rows h.facts.today) (today_rows files.facts.content.today)
    ∷ exchange_of (table.Days Lasts) (all_last_rows h.facts) (all_last_rows files.facts.content) ∷ []
day_exchanges _ h = []
