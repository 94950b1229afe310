-- Cells of the types of their columns (ours).
use Rattle.std.specs.Prelude.{◌≡◌, ◌+◌, ◌<◌, IsUtf8, List, [], ◌∷◌, length, map, slice_index_or, ⊤, ℕ}
use Rattle.sqlite_schema.specs.declared.schema.Kind.{Kind}
use Rattle.sqlite_schema.specs.declared.schema.Kind.TheVariants as kind
use Rattle.sqlite_value.specs.Order.{Row as Cells, column}
use Rattle.sqlite_value.specs.declared.value.Value.{Value}
use Rattle.sqlite_value.specs.declared.value.Value.TheVariants.{Blob, Int, Text}
use Rattle.vet_base.specs.Words.{Bytes}
use Rattle.vet_tables.specs.Form.{ColumnForm, TableForm}

-- a text has to be one, and no bytes of another kind
abbrev pub IsKind : Kind → Value → Type 0
IsKind kind.Integer (Int n) = ⊤
IsKind kind.Text (Text t) = IsUtf8 t
IsKind kind.Blob (Blob b) = ⊤
IsKind _ _ = ⊥

abbrev pub kinds_of : TableForm → List Kind
kinds_of form = map (λ (c : ColumnForm). c.1) form.columns

-- the rowid, and then a value of its type for each column
pub record AreTyped (kinds : List Kind) (row : Cells) : Type 0 where
  pub width : length row ≡ length kinds + 1
  pub rowid : IsKind kind.Integer (column row 0)
  pub cells : (at : ℕ) → at < length kinds → IsKind (slice_index_or kinds at kind.Any) (column row (at + 1))

-- each text of the cells is one
abbrev pub IsReadable : Cells → Type 0
IsReadable cells = (at : ℕ) (t : Bytes) → column cells at ≡ Text t → IsUtf8 t

-- of the type of a column, whatever the bytes of a text are
abbrev pub IsSort : Kind → Value → Type 0
IsSort kind.Integer (Int n) = ⊤
IsSort kind.Text (Text t) = ⊤
IsSort kind.Blob (Blob b) = ⊤
IsSort _ _ = ⊥

-- for each column one cell of its type
abbrev pub AreSorts : List Kind → Cells → Type 0
AreSorts [] [] = ⊤
AreSorts [] (v ∷ cells) = ⊥
AreSorts (k ∷ kinds) [] = ⊥
AreSorts (k ∷ kinds) (v ∷ cells) = IsSort k v × AreSorts kinds cells
