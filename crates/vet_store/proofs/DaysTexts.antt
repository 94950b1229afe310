-- The rows of days have no column of texts.
use Rattle.std.proofs.Common.{inl, inr, None, Option, Some, subst, sym}
use Rattle.vet_base.proofs.ItemLemmas.{in_map}
use Rattle.vet_base.specs.Day.{DayValue}
use Rattle.vet_base.specs.Items.{IsIn}
use Rattle.vet_entries.specs.Facts.{Facts}
use Rattle.vet_entries.specs.declared.facts.HeldEntry.{HeldEntry}
use Rattle.vet_item_rows.specs.DayRows.{filed_day_row, last_days, last_rows, today_rows}
use Rattle.vet_rows.proofs.ListEdits.{in_flat}
use Rattle.vet_rows.specs.DayRows.{rows_of_days}
use Rattle.vet_store.proofs.RowTexts.{AreTold}
use Rattle.vet_tables.specs.Cells.{Row}
use Rattle.vet_tables.specs.declared.table_name.DaysTable.{DaysTable}
use Rattle.vet_tables.specs.declared.table_name.DaysTable.TheVariants.{Lasts, Today}

day_told : (today : Option DayValue) (r : Row) → IsIn r (today_rows today) → AreTold r
day_told None r none = absurd none
day_told (Some day) r (inl is) = subst AreTold (sym is) (tt, (tt, tt))
day_told (Some day) r (inr none) = absurd none

last_told : (h : HeldEntry) (r : Row) → IsIn r (last_rows h) → AreTold r
last_told h r i =
    let it = in_map filed_day_row (last_days h) r i in subst AreTold (sym it.1.1) (tt, (tt, tt))

pub days_told : (facts : Facts) (t : DaysTable) (r : Row) → IsIn r (rows_of_days facts t) → AreTold r
days_told facts Today r i = day_told facts.today r i
days_told facts Lasts r i = let h = in_flat last_rows facts.entries r i in last_told h.0 r h.1.1
