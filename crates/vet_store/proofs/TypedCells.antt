-- The cells of a row of ours have the types of the columns.
use Rattle.std.proofs.Common.{◌≡◌, ◌<◌, ℕ, zero, suc, IsUtf8, List, [], ◌∷◌, length, slice_index_or, refl, sym, ap, ◌∙◌}
use Rattle.std.proofs.Common.{add-one, arith}
use Rattle.std.proofs.lemmas.List.{length-map}
use Rattle.sqlite_schema.specs.declared.schema.Kind.{Kind}
use Rattle.sqlite_schema.specs.declared.schema.Kind.TheVariants as kind
use Rattle.sqlite_value.specs.Order.{Row as Values, column}
use Rattle.sqlite_value.specs.declared.value.Value.{Value}
use Rattle.sqlite_value.specs.declared.value.Value.TheVariants.{Blob, Int, Text}
use Rattle.vet_base.specs.Words.{Bytes}
use Rattle.vet_store.specs.Readable.{IsReadableRow}
use Rattle.vet_tables.proofs.RowForms.{is_wide}
use Rattle.vet_tables.specs.Cells.{Row, value_of, values_of}
use Rattle.vet_tables.specs.Form.{ColumnForm}
use Rattle.vet_tables.specs.Forms.{form_of}
use Rattle.vet_tables.specs.Typed.{AreSorts, AreTyped, IsKind, IsReadable, IsSort, kinds_of}
use Rattle.vet_tables.specs.declared.table_name.TableName.{TableName}

of_kind : (k : Kind) (v : Value) → IsSort k v → ((t : Bytes) → v ≡ Text t → IsUtf8 t) → IsKind k v
of_kind kind.Integer (Int n) sort texts = tt
of_kind kind.Text (Text t) sort texts = texts t refl
of_kind kind.Blob (Blob b) sort texts = tt
of_kind _ _ sort texts = absurd sort

kinds_at : (kinds : List Kind) (first : Value) (values : Values) → AreSorts kinds values → IsReadable values → (at : ℕ)
    → at < length kinds → IsKind (slice_index_or kinds at kind.Any) (column (first ∷ values) (suc at))
kinds_at [] first values all texts at low = absurd (omega (arith, low))
kinds_at (k ∷ kinds) first [] all texts at low = absurd all
kinds_at (k ∷ kinds) first (v ∷ values) all texts zero low = of_kind k v all.0 (λ t is. texts 0 t is)
kinds_at (k ∷ kinds) first (v ∷ values) all texts (suc at) low =
    kinds_at kinds v values all.1 (λ n t is. texts (suc n) t is) at (omega (arith, low))

pub cells_typed : (n : TableName) (row : Row) (id : Value) → IsKind kind.Integer id → IsReadableRow n row
    → AreTyped (kinds_of (form_of n)) (id ∷ values_of row)
cells_typed n row id int readable =
    let kinds = kinds_of (form_of n) in
    let wide : length (values_of row) ≡ length kinds = length-map row value_of ∙ is_wide (form_of n) row readable.fits
    ∙ sym (length-map (form_of n).columns (λ (c : ColumnForm). c.1)) in
    record {
      width = ap suc wide ∙ sym (add-one (length kinds));
      rowid = int;
      cells = λ at low. rw (add-one at)
          (kinds_at kinds id (values_of row) readable.fits readable.texts at low);
    }
