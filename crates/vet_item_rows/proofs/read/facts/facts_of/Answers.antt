use Rattle.std.proofs.Common.{◌∙◌, List, refl, subst, sym}
use Rattle.vet_base.specs.Items.{SameItems}
use Rattle.vet_item_rows.specs.DayRows.{today_rows}
use Rattle.vet_item_rows.specs.ReadRecords.{AreRecordsOf}
use Rattle.vet_item_rows.proofs.FactsMade.{records_read, records_stand, same_facts}
use Rattle.vet_item_rows.proofs.Reading.{passed_on, refused_on}
use Rattle.vet_item_rows.proofs.read.facts.facts_of.Goals as goal
use Rattle.vet_tables.specs.Cells.{Row, rows_in}
use Rattle.vet_tables.specs.declared.table_name.FactsTable.TheVariants.{Publishers}
use Rattle.vet_tables.specs.declared.table_name.TableName.TheVariants as table

pub returns-in_err-parts : goal.returns-in_err-parts
returns-in_err-parts c facts form values rows =
    rw (passed_on c.from_residual.result c.in_err-parts.field-0.0 c.from_residual.ensures.1
    (c.in_err-parts.ensures.back facts form values rows)) refl

pub returns-in_err-records : goal.returns-in_err-records
returns-in_err-records c facts form values rows =
    let stand = records_stand facts values c.of.result.now (rows_in c.args.rows.now (table.Facts Publishers))
    c.of.ensures rows.publishers in
    rw (passed_on c.from_residual-in_err-records.result c.in_err-records.field-0.0
    c.from_residual-in_err-records.ensures.1 (c.in_err-records.ensures stand.0 stand.1)) refl

pub returns-in_err-publishers : goal.returns-in_err-publishers
returns-in_err-publishers c facts form values rows =
    let parts : AreRecordsOf c.in_ok-records.records.items facts.publishers = record {
      by_name = form.packages;
      in_order = form.in_order;
      few = form.few;
      same = records_read facts values c.of.result.now (rows_in c.args.rows.now (table.Facts Publishers)) c.of.ensures
          rows.publishers c.in_ok-records.records.items c.in_ok-records.ensures;
    } in
    rw (passed_on c.from_residual-in_err-publishers.result c.in_err-publishers.field-0.0
    c.from_residual-in_err-publishers.ensures.1 (c.in_err-publishers.ensures.back facts.publishers parts)) refl

pub returns-in_err-today : goal.returns-in_err-today
returns-in_err-today c facts form values rows =
    let same = subst (λ (rs : List Row). SameItems rs (today_rows facts.today)) (sym c.of-2.ensures) rows.today in
    rw (passed_on c.from_residual-in_err-today.result c.in_err-today.field-0.0 c.from_residual-in_err-today.ensures.1
    (c.in_err-today.ensures facts.today values.today same)) refl

pub returns-in_err-of_parts : goal.returns-in_err-of_parts
returns-in_err-of_parts c facts form values rows =
    rw (refused_on c.from_residual-in_err-of_parts.result c.in_err-of_parts.field-0.0
    c.from_residual-in_err-of_parts.ensures.1 c.in_err-of_parts.ensures.memory) refl

pub returns : goal.returns
returns c facts form values rows =
    let parts : AreRecordsOf c.in_ok-records.records.items facts.publishers = record {
      by_name = form.packages;
      in_order = form.in_order;
      few = form.few;
      same = records_read facts values c.of.result.now (rows_in c.args.rows.now (table.Facts Publishers)) c.of.ensures
          rows.publishers c.in_ok-records.records.items c.in_ok-records.ensures;
    } in
    let found = c.in_ok-parts.ensures.back facts form values rows in
    let same = subst (λ (rs : List Row). SameItems rs (today_rows facts.today)) (sym c.of-2.ensures) rows.today in
    c.in_ok-of_parts.ensures.ok ∙ same_facts facts found.criteria found.entries found.peers
    (c.in_ok-publishers.ensures.back facts.publishers parts) (c.in_ok-today.ensures facts.today values.today same)
