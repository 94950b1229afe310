use Rattle.std.proofs.Common.{◌<◌, ◌+◌, ◌++◌, ◌∷◌, [], add-one, ap, arith, subst, sym, ◌∙◌}
use Rattle.std.proofs.lemmas.List.{map-append}
use Rattle.sqlite_schema.specs.declared.schema.Kind.TheVariants as kind
use Rattle.sqlite_value.specs.Order.{column}
use Rattle.vet_tables.proofs.FormColumns.{as_many_kinds, kind_at}
use Rattle.vet_tables.proofs.WholeRows.{columns_from, whole}
use Rattle.vet_tables.proofs.cells.row_cells.Goals as goal
use Rattle.vet_tables.specs.Cells.{value_of, values_of}
use Rattle.vet_tables.specs.Typed.{IsKind}

pub cells-preserved : goal.cells-preserved
cells-preserved c typed =
    let given = c.columns-columns.result.now in
    let forms = c.args.form.now.columns in
    let same = c.columns-columns.ensures in
    let row = c.args.row.now in
    let at = c.cells.at in
    let within = subst (λ n. at < n) (as_many_kinds given forms same) c.cells-test.true in
    let of_kind = subst (λ k. IsKind k (column row (at + 1))) (kind_at given forms same at c.cells-test.true _ kind.Any)
    (typed.cells at within) in
    let cell = c.in_ok-cell_at.ensures of_kind in
    rw c.in_ok-push.ensures.items
    (map-append value_of c.cells.cells.items (c.in_ok-cell_at.field-0 ∷ [])
    ∙ ap (λ xs. xs ++ value_of c.in_ok-cell_at.field-0 ∷ []) (c.cells.invariant typed)
    ∙ ap (λ v. columns_from row at ++ v ∷ []) (sym cell)
    ∙ ap (columns_from row) (sym (add-one at)))

pub returns : goal.returns
returns c typed =
    let wide = as_many_kinds c.columns-columns.result.now c.args.form.now.columns c.columns-columns.ensures in
    let end = c.cells.auto.at-end in
    let width = typed.width in
    whole c.args.row.now c.cells.at (omega (arith, width, wide, end, c.cells-test.false))
    ∙ ap (λ xs. column c.args.row.now 0 ∷ xs) (sym (c.cells.invariant typed) ∙ ap values_of (sym c.of.ensures))
