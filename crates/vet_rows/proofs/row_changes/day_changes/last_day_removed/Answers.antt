use Rattle.std.proofs.Common.{◌≡◌, ◌∷◌, ◌∙◌, [], ap, subst, sym}
use Rattle.std.specs.List.{slice_get}
use Rattle.std.specs.Prelude.{IfOk}
use Rattle.vet_base.proofs.ItemLemmas.{in_all}
use Rattle.vet_item_rows.specs.DayRows.{last_rows}
use Rattle.vet_item_rows.specs.Numbers.{EntryFits}
use Rattle.vet_rows.specs.KeyedItems.{rows_if}
use Rattle.vet_rows.specs.RowExchanges.{exchange_of}
use Rattle.vet_rows.proofs.ListEdits.{at_in}
use Rattle.vet_rows.proofs.row_changes.day_changes.last_day_removed.Goals as goal
use Rattle.vet_tables.specs.declared.table_name.DaysTable.TheVariants.{Lasts}
use Rattle.vet_tables.specs.declared.table_name.TableName.TheVariants as table

pub lasts_exchange-requires-clause-removed : goal.lasts_exchange-requires-clause-removed
lasts_exchange-requires-clause-removed c = λ h e.
    in_all EntryFits c.args.facts.now.content.entries c.requires h
    (at_in c.args.facts.now.content.entries c.args.place h
    (ap (λ entries. slice_get entries c.args.place) (sym c.entries.ensures.value) ∙ sym c.entry_at.ensures ∙ e))

pub returns : goal.returns
returns c =
    subst (λ o. IfOk c.lasts_exchange.result
    (λ exchanges. exchanges.items ≡ exchange_of (table.Days Lasts) (rows_if last_rows o) [] ∷ []))
    (c.entry_at.ensures ∙ ap (λ entries. slice_get entries c.args.place) c.entries.ensures.value)
    c.lasts_exchange.ensures
