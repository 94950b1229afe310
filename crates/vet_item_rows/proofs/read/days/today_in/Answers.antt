use Rattle.std.proofs.Common.{List, refl, subst}
use Rattle.vet_base.specs.Items.{SameItems}
use Rattle.vet_item_rows.specs.DayRows.{days_at, filed_day_row}
use Rattle.vet_item_rows.specs.ReadFacts.{IsFiledDay}
use Rattle.vet_item_rows.proofs.DaysRead.{first_is, today_can, today_rows_are}
use Rattle.vet_item_rows.proofs.Reading.{passed_on}
use Rattle.vet_item_rows.proofs.SetsRead.{items_read, they_stand}
use Rattle.vet_item_rows.proofs.read.days.today_in.Goals as goal
use Rattle.vet_tables.specs.Cells.{Row}

pub returns-in_err-days : goal.returns-in_err-days
returns-in_err-days c today can same =
    let rows = subst (λ (rs : List Row). SameItems c.args.rows.now rs) (today_rows_are today) same in
    let stand = they_stand IsFiledDay filed_day_row c.args.rows.now (days_at 1 today) (today_can today can) rows in
    rw (passed_on c.from_residual.result c.in_err-days.field-0.0 c.from_residual.ensures.1
    (c.in_err-days.ensures stand.0 stand.1)) refl

pub returns : goal.returns
returns c today can same =
    let rows = subst (λ (rs : List Row). SameItems c.args.rows.now rs) (today_rows_are today) same in
    rw (c.first_day.ensures, c.as_slice.ensures.value)
    (first_is today c.in_ok-days.days.items
    (items_read IsFiledDay filed_day_row c.args.rows.now (days_at 1 today) (today_can today can) rows
    c.in_ok-days.days.items c.in_ok-days.ensures))
