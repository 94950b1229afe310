use Rattle.std.proofs.Common.{◌∙◌, ◌∷◌, [], ap, sym}
use Rattle.vet_register.specs.State.{State}
use Rattle.vet_rows.specs.RowChanges.{all_changed}
use Rattle.vet_rows.specs.RowsOf.{meta_row, rows_of}
use Rattle.vet_rows.specs.declared.row_change.RowChange.TheVariants.{Put}
use Rattle.vet_store.proofs.StartRows.{start_rows}
use Rattle.vet_store.proofs.store.create.start_changes.Goals as goal
use Rattle.vet_tables.specs.Cells.{no_rows}
use Rattle.vet_tables.specs.declared.table_name.TableName.TheVariants.{Meta}

pub returns-clause-ok : goal.returns-clause-ok
returns-clause-ok g c =
    let limit = c.requires.0 in
    ap (λ changes. all_changed changes no_rows) c.in_ok-put_meta.ensures.put
    ∙ ap (λ (s : State). all_changed (Put Meta (meta_row s) ∷ []) no_rows) c.requires.1
    ∙ sym (start_rows c.nothing_is_demanded.ensures limit) ∙ ap rows_of (sym c.requires.1)
