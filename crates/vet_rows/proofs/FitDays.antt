-- The rows of days, and those that an edit removes and adds, have the columns of their tables.
use Rattle.std.proofs.Common.{pos, List, Option, Some, None}
use Rattle.std.specs.List.{flat_map, slice_get}
use Rattle.vet_base.specs.Day.{DayValue}
use Rattle.vet_entries.specs.Facts.{Facts}
use Rattle.vet_entries.specs.declared.facts.Edit.{Edit}
use Rattle.vet_entries.specs.declared.facts.Edit.TheVariants as edit
use Rattle.vet_entries.specs.declared.facts.HeldEntry.{HeldEntry}
use Rattle.vet_item_rows.specs.DayRows.{dated_row, filed_day_row, last_days, last_rows, today_rows}
use Rattle.vet_register.specs.Held.{HeldValue}
use Rattle.vet_register.specs.declared.held.HeldEdit.{HeldEdit}
use Rattle.vet_register.specs.declared.held.HeldEdit.TheVariants as held
use Rattle.vet_rows.proofs.FitLists.{AllFit, AreRows, flat_fit, if_fit, mapped_fit, none_fit, one_fit}
use Rattle.vet_rows.specs.DayChanges.{day_exchanges, fact_day_exchanges}
use Rattle.vet_rows.specs.DayRows.{rows_of_days}
use Rattle.vet_tables.specs.declared.table_name.DaysTable.{DaysTable}
use Rattle.vet_tables.specs.declared.table_name.DaysTable.TheVariants.{Lasts, Today}
use Rattle.vet_tables.specs.declared.table_name.TableName.TheVariants as table

pub today_fit : (today : Option DayValue) → AreRows (table.Days Today) (today_rows today)
today_fit None = none_fit (table.Days Today)
today_fit (Some day) = one_fit (table.Days Today) (dated_row (pos 1) day) (tt, (tt, tt))

last_fit : (h : HeldEntry) → AreRows (table.Days Lasts) (last_rows h)
last_fit h = mapped_fit (table.Days Lasts) filed_day_row (λ filed. (tt, (tt, tt))) (last_days h)

pub lasts_fit : (entries : List HeldEntry) → AreRows (table.Days Lasts) (flat_map last_rows entries)
lasts_fit = flat_fit (table.Days Lasts) last_rows last_fit

pub days_rows_fit : (facts : Facts) (t : DaysTable) → AreRows (table.Days t) (rows_of_days facts t)
days_rows_fit facts Today = today_fit facts.today
days_rows_fit facts Lasts = lasts_fit facts.entries

-- ---- by an edit of what is held

fact_days_fit : (e : Edit) (f : Facts) → AllFit (fact_day_exchanges e f)
fact_days_fit (edit.Criteria criteria) f = tt
fact_days_fit (edit.Insert place h) f = ((none_fit (table.Days Lasts), last_fit h), tt)
fact_days_fit (edit.Remove place) f =
    ((if_fit (table.Days Lasts) last_rows last_fit (slice_get f.entries place), none_fit (table.Days Lasts)), tt)
fact_days_fit (edit.Peer change) f = tt
fact_days_fit (edit.Settings settings) f = tt
fact_days_fit (edit.Content name content) f = tt
fact_days_fit (edit.Publishers change) f = tt
fact_days_fit (edit.Today day) f = ((today_fit f.today, today_fit day), tt)

pub days_fit : (e : HeldEdit) (h : HeldValue) → AllFit (day_exchanges e h)
days_fit held.Nothing h = tt
days_fit (held.Facts e) h = fact_days_fit e h.facts
days_fit (held.Policies e) h = tt
days_fit (held.Projects e) h = tt
days_fit (held.Files files) h = (
  (today_fit h.facts.today, today_fit files.facts.content.today),
  ((lasts_fit h.facts.entries, lasts_fit files.facts.content.entries), tt),
)
