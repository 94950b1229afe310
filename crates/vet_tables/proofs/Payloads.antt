-- What the cells of a row are made of, by the types of its columns.
use Rattle.std.proofs.Common.{◌≡◌, ℕ, ℤ, List, [], ◌∷◌, refl, ap, ◌∙◌}
use Rattle.sqlite_schema.specs.declared.schema.Kind.{Kind}
use Rattle.sqlite_schema.specs.declared.schema.Kind.TheVariants as kind
use Rattle.sqlite_value.specs.Order.{Row as Cells}
use Rattle.sqlite_value.specs.declared.value.Value.{Value}
use Rattle.sqlite_value.specs.declared.value.Value.TheVariants.{Blob, Int, Text}
use Rattle.std.specs.Bool.{⊤}
use Rattle.vet_tables.specs.Typed.{AreSorts, IsSort}

-- what a cell of a type is made of
abbrev pub Payload : Kind → Type 0
Payload kind.Integer = ℤ
Payload kind.Text = List ℕ
Payload kind.Blob = List ℕ
Payload kind.Real = ⊥
Payload kind.Any = ⊥

abbrev pub Payloads : List Kind → Type 0
Payloads [] = ⊤
Payloads (k ∷ kinds) = Payload k × Payloads kinds

abbrev pub cell_of : (k : Kind) → Payload k → Value
cell_of kind.Integer n = Int n
cell_of kind.Text t = Text t
cell_of kind.Blob b = Blob b
cell_of kind.Real never = absurd never
cell_of kind.Any never = absurd never

abbrev pub cells_of : (kinds : List Kind) → Payloads kinds → Cells
cells_of [] all = []
cells_of (k ∷ kinds) all = cell_of k all.0 ∷ cells_of kinds all.1

payload : (k : Kind) (v : Value) → IsSort k v → (p : Payload k) × (v ≡ cell_of k p)
payload kind.Integer (Int n) sort = (n, refl)
payload kind.Text (Text t) sort = (t, refl)
payload kind.Blob (Blob b) sort = (b, refl)
payload _ _ sort = absurd sort

-- cells of these types are made so
pub payloads : (kinds : List Kind) (cells : Cells) → AreSorts kinds cells
    → (all : Payloads kinds) × (cells ≡ cells_of kinds all)
payloads [] [] sorts = (tt, refl)
payloads [] (v ∷ cells) sorts = absurd sorts
payloads (k ∷ kinds) [] sorts = absurd sorts
payloads (k ∷ kinds) (v ∷ cells) sorts =
    let one = payload k v sorts.0 in
    let more = payloads kinds cells sorts.1 in
    ((one.0, more.0), ap (λ x. x ∷ cells) one.1 ∙ ap (λ xs. cell_of k one.0 ∷ xs) more.1)
