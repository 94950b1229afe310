use Rattle.std.proofs.Common.{List, refl, subst, sym}
use Rattle.vet_base.specs.Items.{SameItems}
use Rattle.vet_entries.specs.Facts.{Facts}
use Rattle.vet_item_rows.specs.DayRows.{plain_facts}
use Rattle.vet_item_rows.specs.EntryRows.{all_entries}
use Rattle.vet_item_rows.proofs.DaysRead.{all_plain, plain_form, plain_rows, plain_values}
use Rattle.vet_item_rows.proofs.FactsMade.{criteria_read, criteria_stand, entries_read, entries_stand, settings_read}
use Rattle.vet_item_rows.proofs.FactsMade.{settings_stand}
use Rattle.vet_item_rows.proofs.Reading.{passed_on}
use Rattle.vet_item_rows.proofs.read.facts.parts_in.Goals as goal
use Rattle.vet_tables.specs.Cells.{Row, rows_in}
use Rattle.vet_tables.specs.declared.table_name.FactsTable.TheVariants.{Criteria, Entries, Peers}
use Rattle.vet_tables.specs.declared.table_name.TableName.TheVariants as table

-- the rows of entries are those of the same entries without last days
same_entries : (facts : Facts) (rows : List Row) → SameItems rows (all_entries facts)
    → SameItems rows (all_entries (plain_facts facts))
same_entries facts rows same = subst (SameItems rows) (sym (plain_rows facts)) same

pub returns-in_err-criteria-clause-back : goal.returns-in_err-criteria-clause-back
returns-in_err-criteria-clause-back c facts form values rows =
    let stand = criteria_stand facts values c.of.result.now (rows_in c.args.rows.now (table.Facts Criteria))
    c.of.ensures rows.criteria in
    rw (passed_on c.from_residual.result c.in_err-criteria.field-0.0 c.from_residual.ensures.1
    (c.in_err-criteria.ensures stand.0 stand.1)) refl

pub returns-in_err-entries-clause-back : goal.returns-in_err-entries-clause-back
returns-in_err-entries-clause-back c facts form values rows =
    let there = rows_in c.args.rows.now (table.Facts Entries) in
    let stand = entries_stand (plain_facts facts) (plain_values facts values) (all_plain facts form) c.of-2.result.now
    there c.of-2.ensures (same_entries facts there rows.entries) in
    rw (passed_on c.from_residual-in_err-entries.result c.in_err-entries.field-0.0
    c.from_residual-in_err-entries.ensures.1 (c.in_err-entries.ensures stand.0 stand.1)) refl

pub returns-in_err-settings-clause-back : goal.returns-in_err-settings-clause-back
returns-in_err-settings-clause-back c facts form values rows =
    let stand = settings_stand facts values c.of-3.result.now (rows_in c.args.rows.now (table.Facts Peers))
    c.of-3.ensures rows.peers in
    rw (passed_on c.from_residual-in_err-settings.result c.in_err-settings.field-0.0
    c.from_residual-in_err-settings.ensures.1 (c.in_err-settings.ensures stand.0 stand.1)) refl

pub returns-clause-back : goal.returns-clause-back
returns-clause-back c facts form values rows =
    c.parts_of.ensures.back (plain_facts facts) (plain_form facts form) (record {
      same_criteria = criteria_read facts values c.of.result.now (rows_in c.args.rows.now (table.Facts Criteria))
          c.of.ensures rows.criteria c.in_ok-criteria.criteria.items c.in_ok-criteria.ensures;
      same_entries = entries_read (plain_facts facts) (plain_values facts values) (all_plain facts form)
          c.of-2.result.now (rows_in c.args.rows.now (table.Facts Entries)) c.of-2.ensures
          (same_entries facts (rows_in c.args.rows.now (table.Facts Entries)) rows.entries)
          c.in_ok-entries.entries.items c.in_ok-entries.ensures;
      same_settings = settings_read facts values c.of-3.result.now (rows_in c.args.rows.now (table.Facts Peers))
          c.of-3.ensures rows.peers c.in_ok-settings.settings.items c.in_ok-settings.ensures;
    })
