-- Copies are what was copied.
use Rattle.std.proofs.Common.{◌≡◌, ℕ, zero, suc, List, [], ◌∷◌, ◌++◌, get_or, map, refl, replicate}
use Rattle.std.specs.List.{AllZip}
use Rattle.vet_base.proofs.ListLemmas.{all_alike}

pub copies-same : {X : Type 0} (R : X → X → Type 0) → ((x y : X) → R x y → y ≡ x) → (xs ys : List X) → AllZip R xs ys
    → ys ≡ xs
copies-same R same [] [] h = refl
copies-same R same [] (y ∷ ys) h = absurd h
copies-same R same (x ∷ xs) [] h = absurd h
copies-same R same (x ∷ xs) (y ∷ ys) h = λ i. same x y h.0 i ∷ copies-same R same xs ys h.1 i

pub copies-map : {X Y : Type 0} (R : X → X → Type 0) (f : X → Y) → ((x y : X) → R x y → f y ≡ f x) → (xs ys : List X)
    → AllZip R xs ys → map f ys ≡ map f xs
copies-map R f same [] [] h = refl
copies-map R f same [] (y ∷ ys) h = absurd h
copies-map R f same (x ∷ xs) [] h = absurd h
copies-map R f same (x ∷ xs) (y ∷ ys) h = λ i. same x y h.0 i ∷ copies-map R f same xs ys h.1 i

-- what a list is filled up with is what a read past its end gives
pub get_or-filled : {X : Type 0} (x : X) (xs : List X) (k n : ℕ) → get_or (xs ++ replicate k x) n x ≡ get_or xs n x
get_or-filled x [] k n = all_alike x k n
get_or-filled x (y ∷ xs) k zero = refl
get_or-filled x (y ∷ xs) k (suc n) = get_or-filled x xs k n
