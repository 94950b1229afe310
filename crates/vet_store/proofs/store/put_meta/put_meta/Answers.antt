use Rattle.std.proofs.Common.{◌≡◌, ◌∙◌, ◌++◌, ◌∷◌, [], List, ap, inl, inr, refl, subst, sym}
use Rattle.vet_base.specs.Items.{IsIn}
use Rattle.vet_rows.proofs.FitRows.{rows_fit}
use Rattle.vet_rows.specs.FitChanges.{Fits}
use Rattle.vet_rows.specs.RowsOf.{meta_row}
use Rattle.vet_rows.specs.declared.row_change.RowChange.{RowChange}
use Rattle.vet_rows.specs.declared.row_change.RowChange.TheVariants.{Put}
use Rattle.vet_store.proofs.store.put_meta.put_meta.Goals as goal
use Rattle.vet_tables.specs.Cells.{Row}
use Rattle.vet_tables.specs.declared.table_name.TableName.TheVariants.{Meta}
use Rattle.vet_tables.specs.declared.version.TablesVersion.TheVariants.{Second}

pub returns-clause-put : goal.returns-clause-put
returns-clause-put g c =
    let put : List RowChange = Put Meta c.in_ok-row.row ∷ [] in
    c.in_ok-push.ensures.items ∙ ap (λ (xs : List RowChange). xs ++ put) c.new-changes.ensures.items
    ∙ ap (λ (r : Row). Put Meta r ∷ []) c.in_ok-row.ensures

pub returns-clause-fit : goal.returns-clause-fit
returns-clause-fit g c change i =
    let s = c.args.register.now.state in
    let put : List RowChange = Put Meta c.in_ok-row.row ∷ [] in
    let items : c.push.new.self.items ≡ put =
    c.in_ok-push.ensures.items ∙ ap (λ (xs : List RowChange). xs ++ put) c.new-changes.ensures.items in
    let fits : Fits (Put Meta c.in_ok-row.row) =
    subst (λ r. Fits (Put Meta r)) (sym c.in_ok-row.ensures) (rows_fit Second s Meta (meta_row s) (inl refl)) in
    elim (subst (IsIn change) items i) [ inl is ↦ subst Fits (sym is) fits | inr none ↦ absurd none ]
