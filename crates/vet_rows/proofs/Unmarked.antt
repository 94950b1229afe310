-- The rows that have no mark, one after another.
use Rattle.std.proofs.Common.{◌≡◌, Bool, true, false, cond, List, [], ◌∷◌, ◌++◌, filter, map, not, length}
use Rattle.std.proofs.Common.{get_or, refl, ap}
use Rattle.vet_rows.specs.RowExchanges.{unmarked}

-- one more row
pub unmarked_more : {R : Type 0} (rows : List R) (marks : List Bool) (r : R)
    → unmarked (rows ++ r ∷ []) marks ≡ unmarked rows marks ++ cond (get_or marks (length rows) false) [] (r ∷ [])
unmarked_more [] [] r = refl
unmarked_more [] (true ∷ marks) r = refl
unmarked_more [] (false ∷ marks) r = refl
unmarked_more (x ∷ rows) [] r = ap (λ rest. x ∷ rest) (unmarked_more rows [] r)
unmarked_more (x ∷ rows) (true ∷ marks) r = unmarked_more rows marks r
unmarked_more (x ∷ rows) (false ∷ marks) r = ap (λ rest. x ∷ rest) (unmarked_more rows marks r)

-- the rows that a test does not mark
pub unmarked_by : {R : Type 0} (test : R → Bool) (rows : List R)
    → unmarked rows (map test rows) ≡ filter (λ r. not (test r)) rows
unmarked_by test [] = refl
unmarked_by test (r ∷ rows) = by (test r) (unmarked_by test rows)
  where
    by : (b : Bool) → unmarked rows (map test rows) ≡ filter (λ r. not (test r)) rows
        → cond b (unmarked rows (map test rows)) (r ∷ unmarked rows (map test rows))
        ≡ cond (not b) (r ∷ filter (λ r. not (test r)) rows) (filter (λ r. not (test r)) rows)
    by true e = e
    by false e = ap (λ rest. r ∷ rest) e
