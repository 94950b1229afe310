-- A database has the same rows, whichever way they are told: as sets, they are of one value.
use Rattle.std.proofs.Common.{◌≡◌, List, [], ◌∷◌, ℕ, inl, inr, map, refl, sym, ap, ap₂, subst, ◌∙◌}
use Rattle.std.proofs.lemmas.Bool.{cases_lt}
use Rattle.sqlite.specs.Effect.{Database}
use Rattle.sqlite_value.specs.Order.{Row as Values}
use Rattle.sqlite_value.specs.declared.value.Value.{Value}
use Rattle.sqlite_value.specs.declared.value.Value.TheVariants as value
use Rattle.vet_base.proofs.ItemLemmas.{in_map, map_in}
use Rattle.vet_base.specs.Items.{IsIn, SameItems}
use Rattle.vet_store.specs.Stands.{Holds, HoldsFirst}
use Rattle.vet_tables.proofs.Effects.{same_tree}
use Rattle.vet_tables.specs.Cells.{Row, RowsValue, SameRows, contents_of, value_of, values_of}
use Rattle.vet_tables.specs.Contents.{Shows}
use Rattle.vet_tables.specs.Form.{TableForm}
use Rattle.vet_tables.specs.Forms.{code, form_of}
use Rattle.vet_tables.specs.declared.cell.Cell.{Cell}
use Rattle.vet_tables.specs.declared.cell.Cell.TheVariants.{Int, Text, Blob}

-- ---- a row is told by its values

abbrev cell_of : Value → Cell
cell_of (value.Int n) = Int n
cell_of (value.Text t) = Text t
cell_of (value.Blob b) = Blob b
cell_of _ = Blob []

cell_again : (cell : Cell) → cell_of (value_of cell) ≡ cell
cell_again (Int n) = refl
cell_again (Text t) = refl
cell_again (Blob b) = refl

row_again : (row : Row) → map cell_of (values_of row) ≡ row
row_again [] = refl
row_again (cell ∷ row) = ap₂ (λ (x : Cell) (xs : Row). x ∷ xs) (cell_again cell) (row_again row)

-- ---- so rows of the same values are the same rows

row_in : (xs ys : List Row) → ((v : Values) → IsIn v (map values_of xs) → IsIn v (map values_of ys)) → (r : Row)
    → IsIn r xs → IsIn r ys
row_in xs ys each r i =
    let it = in_map values_of ys (values_of r) (each (values_of r) (map_in values_of xs r i)) in
    let same : r ≡ it.0 = sym (row_again r) ∙ ap (map cell_of) it.1.1 ∙ row_again it.0 in
    subst (λ x. IsIn x ys) (sym same) it.1.0

same_told : (xs ys : List Row) → SameItems (map values_of xs) (map values_of ys) → SameItems xs ys
same_told xs ys same = (row_in xs ys same.0, row_in ys xs same.1)

-- ---- a table has the same rows, by whichever way it is found

one_shown : (form : TableForm) (tree xs ys : List Values) → Shows form tree xs → Shows form tree ys → SameItems xs ys
one_shown form tree xs ys h k = (λ c i. k.same.1 c (h.same.0 c i), λ c i. h.same.1 c (k.same.0 c i))

-- rows that a database has are the same rows as others that it has
pub one_rows : (db : Database) (a b : RowsValue) → Holds db a → Holds db b → SameRows a b
one_rows db a b h k n =
    let same = same_tree db.schema (form_of n) (h.has n) (k.has n) in
    let shows = subst (λ t. Shows (form_of n) (db.trees t) (contents_of a n)) same (h.shows n) in
    same_told (a n) (b n)
    (one_shown (form_of n) (db.trees (k.has n).tree) (contents_of a n) (contents_of b n) shows (k.shows n))

same_none : (xs ys : List Row) → map values_of xs ≡ [] → map values_of ys ≡ [] → SameItems xs ys
same_none [] [] none also = (λ r i. i, λ r i. i)
same_none (x ∷ xs) ys none also = absurd (cc none)
same_none [] (y ∷ ys) none also = absurd (cc also)

-- the same holds for rows in the first tables, up to a count
pub one_first_rows : (count : ℕ) (db : Database) (a b : RowsValue) → HoldsFirst count db a → HoldsFirst count db b
    → SameRows a b
one_first_rows count db a b h k n = elim (cases_lt (code n) count) [
  | inl low ↦
      let one = h.first.has n low in
      let two = k.first.has n low in
      let same = same_tree db.schema (form_of n) one two in
      let shows = subst (λ t. Shows (form_of n) (db.trees t) (contents_of a n)) same (h.shows n low) in
      same_told (a n) (b n)
      (one_shown (form_of n) (db.trees two.tree) (contents_of a n) (contents_of b n) shows (k.shows n low))
  | inr high ↦ same_none (a n) (b n) (h.none n high) (k.none n high)
]
