use Rattle.std.proofs.Common.{refl}
use Rattle.vet_item_rows.proofs.DaysRead.{days_read, days_stand}
use Rattle.vet_item_rows.proofs.Reading.{passed_on}
use Rattle.vet_item_rows.proofs.read.facts.dated_parts.Goals as goal
use Rattle.vet_tables.specs.Cells.{rows_in}
use Rattle.vet_tables.specs.declared.table_name.DaysTable.TheVariants.{Lasts}
use Rattle.vet_tables.specs.declared.table_name.TableName.TheVariants as table

pub returns-in_err-days-clause-back : goal.returns-in_err-days-clause-back
returns-in_err-days-clause-back c facts form values rows =
    let stand = days_stand facts.entries values.entries c.of.result.now (rows_in c.args.rows.now (table.Days Lasts))
    c.of.ensures rows.lasts in
    rw (passed_on c.from_residual.result c.in_err-days.field-0.0 c.from_residual.ensures.1
    (c.in_err-days.ensures stand.0 stand.1)) refl

pub returns-in_err-parts-clause-back : goal.returns-in_err-parts-clause-back
returns-in_err-parts-clause-back c facts form values rows =
    rw (passed_on c.from_residual-in_err-parts.result c.in_err-parts.field-0.0 c.from_residual-in_err-parts.ensures.1
    (c.in_err-parts.ensures.back facts form values rows)) refl

pub returns-clause-back : goal.returns-clause-back
returns-clause-back c facts form values rows =
    let found = c.in_ok-parts.ensures.back facts form values rows in
    let days = days_read facts.entries values.entries c.of.result.now (rows_in c.args.rows.now (table.Days Lasts))
    c.of.ensures rows.lasts c.in_ok-days.days.items c.in_ok-days.ensures in
    record {
      criteria = found.criteria;
      entries = c.in_ok-entries.ensures.back facts.entries form.by_number found.entries days;
      peers = found.peers;
    }
