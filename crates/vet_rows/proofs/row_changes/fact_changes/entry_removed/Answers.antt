use Rattle.std.proofs.Common.{◌≡◌, ◌∷◌, ◌∙◌, [], ap, subst, sym}
use Rattle.std.specs.List.{slice_get}
use Rattle.std.specs.Prelude.{IfOk}
use Rattle.vet_base.proofs.ItemLemmas.{in_all}
use Rattle.vet_item_rows.specs.Numbers.{EntryFits}
use Rattle.vet_rows.specs.FactsRows.{own_entry}
use Rattle.vet_rows.specs.KeyedItems.{rows_if}
use Rattle.vet_rows.specs.RowExchanges.{exchange_of}
use Rattle.vet_rows.proofs.ListEdits.{at_in}
use Rattle.vet_rows.proofs.row_changes.fact_changes.entry_removed.Goals as goal
use Rattle.vet_tables.specs.declared.table_name.FactsTable.TheVariants.{Entries}
use Rattle.vet_tables.specs.declared.table_name.TableName.TheVariants as table

pub only_row_exchange-requires-clause-removed : goal.only_row_exchange-requires-clause-removed
only_row_exchange-requires-clause-removed c = λ h e.
    in_all EntryFits c.args.facts.now.content.entries c.requires h
    (at_in c.args.facts.now.content.entries c.args.place h
    (ap (λ entries. slice_get entries c.args.place) (sym c.entries.ensures.value) ∙ sym c.entry_at.ensures ∙ e))

pub returns : goal.returns
returns c =
    subst (λ o. IfOk c.only_row_exchange.result
    (λ exchanges. exchanges.items ≡ exchange_of (table.Facts Entries) (rows_if own_entry o) [] ∷ []))
    (c.entry_at.ensures ∙ ap (λ entries. slice_get entries c.args.place) c.entries.ensures.value)
    c.only_row_exchange.ensures
