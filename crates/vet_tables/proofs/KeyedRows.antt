-- Which rows the test of a key finds: those of the same key.
use Rattle.std.proofs.Common.{◌≡◌, ◌&&◌, ℕ, ℤ, zero, suc, ◌+◌, List, [], ◌∷◌, Bool, true, false, Some, Ordering, Less}
use Rattle.std.proofs.Common.{Equal, Greater, map, refl, sym, ap, ◌∙◌, add-one, arith}
use Rattle.std.proofs.lemmas.Map.Text.{is_eq-slice_cmp}
use Rattle.std.specs.List.{range_with_len}
use Rattle.std.specs.Ordering.{int_eq, is_eq, nat_cmp, ordering_reverse}
use Rattle.std.specs.Str.{bytes_eq}
use Rattle.sqlite_schema.specs.Rules.{equal}
use Rattle.sqlite_sql.specs.Ops.{binary, from_truth, is_true}
use Rattle.sqlite_value.proofs.OrderLemmas.{value_cmp-Blob, value_cmp-Int, value_cmp-Text, value_cmp-apart}
use Rattle.sqlite_value.proofs.OrderLemmas.{value_cmp_total}
use Rattle.sqlite_value.specs.Order.{Row as Values, class, column, value_cmp}
use Rattle.sqlite_value.specs.declared.keys.Collation.TheVariants.{Binary}
use Rattle.sqlite_value.specs.declared.value.Value.{Value}
use Rattle.sqlite_value.specs.declared.value.Value.TheVariants as value
use Rattle.vet_tables.specs.Cells.{Row, cell_eq, same_first, same_key, value_of, values_of}
use Rattle.vet_tables.specs.Form.{TableForm, key_of}
use Rattle.vet_tables.specs.Keyed.{is_keyed, keyed_from}
use Rattle.vet_tables.specs.declared.cell.Cell.{Cell}
use Rattle.vet_tables.specs.declared.cell.Cell.TheVariants.{Int, Text, Blob}

-- ---- two cells

told : (b : Bool) → is_true (from_truth (Some b)) ≡ b
told true = refl
told false = refl

reversed : (o : Ordering) → is_eq (ordering_reverse o) ≡ is_eq o
reversed Less = refl
reversed Equal = refl
reversed Greater = refl

turned : (a b : Value) → is_eq (value_cmp a b) ≡ is_eq (value_cmp b a)
turned a b = ap is_eq (value_cmp_total.antisymm a b) ∙ reversed (value_cmp b a)

same_text : (a b : List ℕ) → equal Binary (value.Text a) (value.Text b) ≡ bytes_eq b a
unfolding binary
same_text a b =
    told (is_eq (value_cmp (value.Text a) (value.Text b))) ∙ turned (value.Text a) (value.Text b)
    ∙ ap is_eq (value_cmp-Text b a) ∙ is_eq-slice_cmp b a

same_blob : (a b : List ℕ) → equal Binary (value.Blob a) (value.Blob b) ≡ bytes_eq b a
unfolding binary
same_blob a b =
    told (is_eq (value_cmp (value.Blob a) (value.Blob b))) ∙ turned (value.Blob a) (value.Blob b)
    ∙ ap is_eq (value_cmp-Blob b a) ∙ is_eq-slice_cmp b a

same_int : (a b : ℤ) → equal Binary (value.Int a) (value.Int b) ≡ int_eq b a
unfolding binary
same_int a b =
    told (is_eq (value_cmp (value.Int a) (value.Int b))) ∙ turned (value.Int a) (value.Int b)
    ∙ ap is_eq (value_cmp-Int b a)

-- values of two types are never equal
apart : (a b : Value) → (class a ≡ class b → ⊥) → is_eq (nat_cmp (class a) (class b)) ≡ false
    → is_true (from_truth (Some (is_eq (value_cmp a b)))) ≡ false
apart a b other never = told (is_eq (value_cmp a b)) ∙ ap is_eq (value_cmp-apart a b other) ∙ never

equal_is : (x y : Cell) → equal Binary (value_of y) (value_of x) ≡ cell_eq x y
unfolding binary
equal_is (Int m) (Int n) = same_int n m
equal_is (Text s) (Text t) = same_text t s
equal_is (Blob b) (Blob c) = same_blob c b
equal_is (Int m) (Text t) = apart (value.Text t) (value.Int m) (λ e. cc e) refl
equal_is (Int m) (Blob c) = apart (value.Blob c) (value.Int m) (λ e. cc e) refl
equal_is (Text s) (Int n) = apart (value.Int n) (value.Text s) (λ e. cc e) refl
equal_is (Text s) (Blob c) = apart (value.Blob c) (value.Text s) (λ e. cc e) refl
equal_is (Blob b) (Int n) = apart (value.Int n) (value.Blob b) (λ e. cc e) refl
equal_is (Blob b) (Text t) = apart (value.Text t) (value.Blob b) (λ e. cc e) refl

-- no value equals NULL
none_equal : (y : Cell) → equal Binary (value_of y) value.Null ≡ false
unfolding binary
none_equal (Int n) = refl
none_equal (Text t) = refl
none_equal (Blob b) = refl

null_equal : (v : Value) → equal Binary value.Null v ≡ false
unfolding binary
null_equal v = refl

-- ---- two rows, column by column

-- so many columns from a place on are equal
abbrev equal_from : Values → Values → ℕ → ℕ → Bool
equal_from cells key at zero = true
equal_from cells key at (suc n) = equal Binary (column cells at) (column key at) && equal_from cells key (at + 1) n

shifted : (v w : Value) (cells key : Values) (at n : ℕ)
    → equal_from (v ∷ cells) (w ∷ key) (at + 1) n ≡ equal_from cells key at n
shifted v w cells key at zero = refl
shifted v w cells key at (suc n) =
    ap (λ k. equal Binary (column (v ∷ cells) k) (column (w ∷ key) k)
    && equal_from (v ∷ cells) (w ∷ key) (at + 1 + 1) n) (add-one at)
    ∙ ap (λ b. equal Binary (column cells at) (column key at) && b) (shifted v w cells key (at + 1) n)

same_columns : (n : ℕ) (r e : Row) → equal_from (values_of e) (values_of r) 0 n ≡ same_first n r e
same_columns zero r e = refl
same_columns (suc n) (x ∷ r) (y ∷ e) =
    ap (λ b. b && equal_from (values_of (y ∷ e)) (values_of (x ∷ r)) 1 n) (equal_is x y)
    ∙ ap (λ b. cell_eq x y && b)
    (shifted (value_of y) (value_of x) (values_of e) (values_of r) 0 n ∙ same_columns n r e)
same_columns (suc n) [] [] = ap (λ b. b && equal_from [] [] 1 n) (null_equal value.Null)
same_columns (suc n) [] (y ∷ e) = ap (λ b. b && equal_from (values_of (y ∷ e)) [] 1 n) (none_equal y)
same_columns (suc n) (x ∷ r) [] =
    ap (λ b. b && equal_from [] (values_of (x ∷ r)) 1 n) (null_equal (value_of x))

-- ---- the key of a row, column by column

-- a key that lies behind so many values is read from there on
keyed_is : (front key cells : Values) (at n : ℕ) (i : ℕ)
    → ((k : ℕ) → column (map (column key) (range_with_len at n)) k ≡ column front (i + k))
    → keyed_from front cells i (range_with_len at n) ≡ equal_from cells key at n
keyed_is front key cells at zero i same = refl
keyed_is front key cells at (suc n) i same =
    ap (λ v. equal Binary (column cells at) v && keyed_from front cells (i + 1) (range_with_len (at + 1) n))
    (sym (same 0 ∙ ap (column front) (plus_none i)))
    ∙ ap (λ b. equal Binary (column cells at) (column key at) && b)
    (keyed_is front key cells (at + 1) n (i + 1) (λ k. same (suc k) ∙ ap (column front) (moved i k)))
  where
    plus_none : (m : ℕ) → m + 0 ≡ m
    plus_none m = omega arith

    moved : (m k : ℕ) → m + suc k ≡ (m + 1) + k
    moved m k = omega arith

pub same_key_is : (form : TableForm) (r e : Row)
    → is_keyed form (key_of form (values_of r)) (values_of e) ≡ same_key form r e
same_key_is form r e =
    keyed_is (key_of form (values_of r)) (values_of r) (values_of e) 0 form.key 0
    (λ k. ap (column (key_of form (values_of r))) (none_plus k))
    ∙ same_columns form.key r e
  where
    none_plus : (m : ℕ) → m ≡ 0 + m
    none_plus m = omega arith
