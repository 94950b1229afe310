-- Rows that have a cell of its type for each column.
use Rattle.std.proofs.Common.{◌≡◌, suc, List, [], ◌∷◌, length, refl, sym, ap, ◌∙◌}
use Rattle.std.proofs.lemmas.List.{length-map}
use Rattle.sqlite_schema.specs.declared.schema.Kind.{Kind}
use Rattle.sqlite_value.specs.Order.{Row as Values}
use Rattle.vet_tables.specs.Cells.{IsRowOf, Row, value_of, values_of}
use Rattle.vet_tables.specs.Form.{ColumnForm, TableForm}
use Rattle.vet_tables.specs.Typed.{AreSorts, kinds_of}

as_many : (kinds : List Kind) (cells : Values) → AreSorts kinds cells → length cells ≡ length kinds
as_many [] [] all = refl
as_many [] (v ∷ cells) all = absurd all
as_many (k ∷ kinds) [] all = absurd all
as_many (k ∷ kinds) (v ∷ cells) all = ap suc (as_many kinds cells all.1)

-- it has as many cells as there are columns
pub is_wide : (form : TableForm) (row : Row) → IsRowOf form row → length row ≡ length form.columns
is_wide form row fits =
    sym (length-map row value_of) ∙ as_many (kinds_of form) (values_of row) fits
    ∙ length-map form.columns (λ (c : ColumnForm). c.1)
