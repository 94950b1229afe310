-- What it says of two rows that they have the same key.
use Rattle.std.proofs.Common.{◌≡◌, ◌&&◌, ◌<◌, ◌≤◌, ℕ, ℤ, zero, suc, Bool, true, false, List, [], ◌∷◌, length, pos}
use Rattle.std.proofs.Common.{slice_index_or, refl, ap, ◌∙◌, arith}
use Rattle.std.proofs.lemmas.Bool.{false≢true}
use Rattle.vet_tables.proofs.RowForms.{is_wide}
use Rattle.vet_tables.proofs.TablePlaces.{key_within}
use Rattle.vet_tables.specs.CellLaws.{cell_eq-Decides}
use Rattle.vet_tables.specs.Cells.{IsRowOf, Row, same_first, same_key}
use Rattle.vet_tables.specs.Forms.{form_of}
use Rattle.vet_tables.specs.declared.cell.Cell.{Cell}
use Rattle.vet_tables.specs.declared.cell.Cell.TheVariants.{Int, Text, Blob}
use Rattle.vet_tables.specs.declared.table_name.TableName.{TableName}

-- ---- columns

both : (a b : Bool) → a ≡ true → b ≡ true → (a && b) ≡ true
both a b h k = ap (λ x. x && b) h ∙ k

first : (a b : Bool) → (a && b) ≡ true → a ≡ true
first true b h = refl
first false b h = absurd (false≢true h)

rest : (a b : Bool) → (a && b) ≡ true → b ≡ true
rest true b h = h
rest false b h = absurd (false≢true h)

abbrev cell_at : Row → ℕ → Cell
cell_at row at = slice_index_or row at (Int (pos 0))

abbrev text_in : Cell → List ℕ
text_in (Int n) = []
text_in (Text t) = t
text_in (Blob b) = b

abbrev number_in : Cell → ℤ
number_in (Int n) = n
number_in (Text t) = pos 0
number_in (Blob b) = pos 0

-- the text, and the number, in a column
abbrev pub text_at : ℕ → Row → List ℕ
text_at at row = text_in (cell_at row at)

abbrev pub number_at : ℕ → Row → ℤ
number_at at row = number_in (cell_at row at)

-- ---- the first columns

same_cells : (n : ℕ) (r s : Row) → same_first n r s ≡ true → (at : ℕ) → at < n → cell_at r at ≡ cell_at s at
same_cells zero r s h at low = absurd (omega (arith, low))
same_cells (suc n) [] s h at low = absurd (false≢true h)
same_cells (suc n) (x ∷ r) [] h at low = absurd (false≢true h)
same_cells (suc n) (x ∷ r) (y ∷ s) h zero low = (cell_eq-Decides x y).0 (first _ _ h)
same_cells (suc n) (x ∷ r) (y ∷ s) h (suc at) low = same_cells n r s (rest _ _ h) at (omega (arith, low))

same_all : (n : ℕ) (r s : Row) → length r ≡ n → length s ≡ n → same_first n r s ≡ true → r ≡ s
same_all zero [] [] wide also h = refl
same_all zero (x ∷ r) s wide also h = absurd (omega (arith, wide))
same_all zero [] (y ∷ s) wide also h = absurd (omega (arith, also))
same_all (suc n) [] s wide also h = absurd (omega (arith, wide))
same_all (suc n) (x ∷ r) [] wide also h = absurd (omega (arith, also))
same_all (suc n) (x ∷ r) (y ∷ s) wide also h =
    let one = (cell_eq-Decides x y).0 (first _ _ h) in
    let more = same_all n r s (omega (arith, wide)) (omega (arith, also)) (rest _ _ h) in
    λ i. one i ∷ more i

same_itself : (n : ℕ) (r : Row) → n ≤ length r → same_first n r r ≡ true
same_itself zero r wide = refl
same_itself (suc n) [] wide = absurd (omega (arith, wide))
same_itself (suc n) (x ∷ r) wide =
    both _ _ ((cell_eq-Decides x x).1 refl) (same_itself n r (omega (arith, wide)))

-- ---- keys

module _ (table : TableName) where
  -- a row of a table has its own key
  pub own_key : (r : Row) → IsRowOf (form_of table) r → same_key (form_of table) r r ≡ true
  own_key r fits =
      let wide = is_wide (form_of table) r fits in
      let within = key_within table in
      same_itself (form_of table).key r (omega (arith, wide, within))

  -- rows of one key have the same text, and the same number, in a column of it
  pub same_text : (r s : Row) → same_key (form_of table) r s ≡ true → (at : ℕ) → at < (form_of table).key
      → text_at at r ≡ text_at at s
  same_text r s h at low = ap text_in (same_cells (form_of table).key r s h at low)

  pub same_number : (r s : Row) → same_key (form_of table) r s ≡ true → (at : ℕ) → at < (form_of table).key
      → number_at at r ≡ number_at at s
  same_number r s h at low = ap number_in (same_cells (form_of table).key r s h at low)

  -- where all columns are the key, the rows of one key are the same row
  pub same_whole : length (form_of table).columns ≡ (form_of table).key → (r s : Row) → IsRowOf (form_of table) r
      → IsRowOf (form_of table) s → same_key (form_of table) r s ≡ true → r ≡ s
  same_whole all r s of_r of_s h =
      same_all (form_of table).key r s (is_wide (form_of table) r of_r ∙ all) (is_wide (form_of table) s of_s ∙ all) h
