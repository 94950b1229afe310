-- What an edit of a list leaves, and what undoes it.
use Rattle.std.proofs.Common.{◌≡◌, ℕ, zero, suc, ◌<◌, List, [], ◌∷◌, length, map, get_or, ap, arith, refl}
use Rattle.std.specs.List.{insert, remove}

-- an element taken out and put in again leaves the list
pub insert-remove : {X : Type 0} (xs : List X) (i : ℕ) (x : X) → i < length xs → x ≡ get_or xs i x
    → insert (remove xs i) i x ≡ xs
insert-remove [] i x within at = absurd (omega arith)
insert-remove (y ∷ ys) zero x within at = ap (λ z. z ∷ ys) at
insert-remove (y ∷ ys) (suc i) x within at = ap (λ rest. y ∷ rest) (insert-remove ys i x (omega arith) at)

-- what is said of each element, after one is put in
pub map-insert : {X Y : Type 0} (f : X → Y) (xs : List X) (i : ℕ) (x : X)
    → map f (insert xs i x) ≡ insert (map f xs) i (f x)
map-insert f [] zero x = refl
map-insert f [] (suc i) x = refl
map-insert f (y ∷ ys) zero x = refl
map-insert f (y ∷ ys) (suc i) x = ap (λ rest. f y ∷ rest) (map-insert f ys i x)

-- and after one is taken out
pub map-remove : {X Y : Type 0} (f : X → Y) (xs : List X) (i : ℕ) → map f (remove xs i) ≡ remove (map f xs) i
map-remove f [] zero = refl
map-remove f [] (suc i) = refl
map-remove f (y ∷ ys) zero = refl
map-remove f (y ∷ ys) (suc i) = ap (λ rest. f y ∷ rest) (map-remove f ys i)
