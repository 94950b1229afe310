-- A row, column by column.
use Rattle.std.proofs.Common.{◌≡◌, ◌≤◌, ℕ, zero, suc, ◌+◌, ◌++◌, [], ◌∷◌, length, sym, ap, ◌∙◌, add-one, arith}
use Rattle.std.proofs.Common.{take, take-suc}
use Rattle.std.proofs.Math.Seq.{take-length}
use Rattle.sqlite_value.specs.Order.{Row as Values, column}
use Rattle.sqlite_value.specs.declared.value.Value.TheVariants.{Null}

-- the first columns behind the rowid
abbrev pub columns_from : Values → ℕ → Values
columns_from row zero = []
columns_from row (suc n) = columns_from row n ++ column row (n + 1) ∷ []

first_columns : (row : Values) (n : ℕ) → n + 1 ≤ length row → take (n + 1) row ≡ column row 0 ∷ columns_from row n
first_columns row zero wide = take-suc row 0 Null (omega (arith, wide))
first_columns row (suc n) wide =
    ap (λ k. take k row) (add-one (suc n))
    ∙ take-suc row (suc n) Null (omega (arith, wide))
    ∙ ap (λ k. take k row ++ column row (suc n) ∷ []) (sym (add-one n))
    ∙ ap (λ xs. xs ++ column row (suc n) ∷ []) (first_columns row n (omega (arith, wide)))
    ∙ ap (λ k. (column row 0 ∷ columns_from row n) ++ column row k ∷ []) (sym (add-one n))

pub whole : (row : Values) (n : ℕ) → length row ≡ n + 1 → row ≡ column row 0 ∷ columns_from row n
whole row n wide =
    sym (ap (λ k. take k row) (sym wide) ∙ take-length row) ∙ first_columns row n (omega (arith, wide))
