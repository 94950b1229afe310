-- Items in the order of their numbers: what a stable sort leaves, and what goes along with a map.
use Rattle.std.proofs.Common.{◌≡◌, ℕ, zero, suc, ◌<◌, ◌≤◌, Bool, true, false, cond, List, [], ◌∷◌, map, length, refl}
use Rattle.std.proofs.Common.{sym, ap, ◌∙◌, arith}
use Rattle.std.specs.Prelude.{nat_lt}
use Rattle.std.specs.List.{All, filter}
use Rattle.std.specs.Cmp.{nat_cmp_total}
use Rattle.std.specs.List.Sorted.{IsNonDecreasingBy, IsSortedByKey, IsStableByKey}
use Rattle.std.specs.Ordering.{is_eq, nat_cmp}
use Rattle.std.proofs.lemmas.Bool.Decides.{nat_tests}
use Rattle.std.proofs.lemmas.List.Elements.{All-cons, All-head, All-tail}
use Rattle.std.proofs.lemmas.List.Sorted.{IsNonDecreasingBy-from_sort}
use Rattle.std.proofs.lemmas.Map.Lookups.{exact_unsigned}
use Rattle.vet_base.proofs.KeyedLemmas.{kept}
use Rattle.vet_entries.specs.Step.{by_number, put_by_number}

tied : (a b : ℕ) → a ≡ b → is_eq (nat_cmp a b) ≡ true
tied a b h = grind (arith, nat_tests)

apart : (a b : ℕ) → (a ≡ b → ⊥) → is_eq (nat_cmp a b) ≡ false
apart a b h = grind (arith, nat_tests)

same_number : (a b : ℕ) → is_eq (nat_cmp a b) ≡ true → a ≡ b
same_number a b h = grind (arith, nat_tests)

lower : (a b : ℕ) → nat_lt a b ≡ true → a < b
lower a b h = grind (arith, nat_tests)

not_lower : (a b : ℕ) → nat_lt a b ≡ false → b ≤ a
not_lower a b h = grind (arith, nat_tests)

-- ---- along with a map

module _ {X Y : Type 0} (f : X → Y) (n : X → ℕ) (m : Y → ℕ) (alike : (x : X) → m (f x) ≡ n x) where
  map-put_by_number : (x : X) (ys : List X) → map f (put_by_number n x ys) ≡ put_by_number m (f x) (map f ys)
  map-put_by_number x [] = refl
  map-put_by_number x (y ∷ ys) = at (nat_lt (n y) (n x)) (map-put_by_number x ys)
      ∙ ap (λ b. cond b (f y ∷ put_by_number m (f x) (map f ys)) (f x ∷ f y ∷ map f ys))
      (λ i. nat_lt (sym (alike y) i) (sym (alike x) i))
    where
      at : (b : Bool) → map f (put_by_number n x ys) ≡ put_by_number m (f x) (map f ys)
          → map f (cond b (y ∷ put_by_number n x ys) (x ∷ y ∷ ys)) ≡ cond b (f y ∷ put_by_number m (f x) (map f ys))
          (f x ∷ f y ∷ map f ys)
      at true rest = ap (λ zs. f y ∷ zs) rest
      at false rest = refl

  pub map-by_number : (xs : List X) → map f (by_number n xs) ≡ by_number m (map f xs)
  map-by_number [] = refl
  map-by_number (x ∷ xs) = map-put_by_number x (by_number n xs) ∙ ap (put_by_number m (f x)) (map-by_number xs)

-- ---- what a stable sort leaves

module _ {X : Type 0} (n : X → ℕ) where
  abbrev at : ℕ → X → Bool
  at k x = is_eq (nat_cmp (n x) k)

  -- an item put among others stands behind those of its number
  kept-put : (k : ℕ) (x : X) (ys : List X) → filter (at k) (put_by_number n x ys) ≡ filter (at k) (x ∷ ys)
  kept-put k x [] = refl
  kept-put k x (y ∷ ys) = placed (nat_lt (n y) (n x)) refl (kept-put k x ys)
    where
      turned : (a b : Bool) → at k x ≡ a → at k y ≡ b → n y < n x
          → cond b (y ∷ cond a (x ∷ filter (at k) ys) (filter (at k) ys))
          (cond a (x ∷ filter (at k) ys) (filter (at k) ys))
          ≡ cond a (x ∷ cond b (y ∷ filter (at k) ys) (filter (at k) ys))
          (cond b (y ∷ filter (at k) ys) (filter (at k) ys))
      turned true true e f l = absurd (omega (arith, same_number (n x) k e, same_number (n y) k f, l))
      turned true false e f l = refl
      turned false true e f l = refl
      turned false false e f l = refl

      placed : (b : Bool) → nat_lt (n y) (n x) ≡ b → filter (at k) (put_by_number n x ys) ≡ filter (at k) (x ∷ ys)
          → filter (at k) (cond b (y ∷ put_by_number n x ys) (x ∷ y ∷ ys)) ≡ filter (at k) (x ∷ y ∷ ys)
      placed false h rest = refl
      placed true h rest = ap (λ zs. cond (at k y) (y ∷ zs) zs) rest ∙ turned (at k x) (at k y) refl refl
          (lower (n y) (n x) h)

  kept-by_number : (k : ℕ) (xs : List X) → filter (at k) (by_number n xs) ≡ filter (at k) xs
  kept-by_number k [] = refl
  kept-by_number k (x ∷ xs) = kept-put k x (by_number n xs) ∙ ap (λ zs. cond (at k x) (x ∷ zs) zs) (kept-by_number k xs)

  All-put : (P : X → Type 0) (x : X) (ys : List X) → P x → All P ys → All P (put_by_number n x ys)
  All-put P x [] h all = All-cons P x [] h all
  All-put P x (y ∷ ys) h all = placed (nat_lt (n y) (n x)) (All-put P x ys h (All-tail P y ys all))
    where
      placed : (b : Bool) → All P (put_by_number n x ys) → All P (cond b (y ∷ put_by_number n x ys) (x ∷ y ∷ ys))
      placed true rest = All-cons P y (put_by_number n x ys) (All-head P y ys all) rest
      placed false rest = All-cons P x (y ∷ ys) h all

  -- the items behind the first have no lower number
  behind : (x : X) (xs : List X) → IsNonDecreasingBy n (x ∷ xs) → All (λ y. n x ≤ n y) xs
  behind x xs up i d l = up 0 (suc i) d (omega arith) (omega (arith, l))

  rest_rises : (x : X) (xs : List X) → IsNonDecreasingBy n (x ∷ xs) → IsNonDecreasingBy n xs
  rest_rises x xs up i j d le l = up (suc i) (suc j) d (omega (arith, le)) (omega (arith, l))

  rises-cons : (x : X) (xs : List X) → All (λ y. n x ≤ n y) xs → IsNonDecreasingBy n xs → IsNonDecreasingBy n (x ∷ xs)
  rises-cons x xs all up zero zero d le l = omega arith
  rises-cons x xs all up zero (suc j) d le l = all j d (omega (arith, l))
  rises-cons x xs all up (suc i) zero d le l = absurd (omega (arith, le))
  rises-cons x xs all up (suc i) (suc j) d le l = up i j d (omega (arith, le)) (omega (arith, l))

  rises-put : (x : X) (ys : List X) → IsNonDecreasingBy n ys → IsNonDecreasingBy n (put_by_number n x ys)
  rises-put x [] up = rises-cons x [] (λ i d l. absurd (omega (arith, l))) up
  rises-put x (y ∷ ys) up = placed (nat_lt (n y) (n x)) refl (rises-put x ys (rest_rises y ys up))
    where
      placed : (b : Bool) → nat_lt (n y) (n x) ≡ b → IsNonDecreasingBy n (put_by_number n x ys)
          → IsNonDecreasingBy n (cond b (y ∷ put_by_number n x ys) (x ∷ y ∷ ys))
      placed true h rest =
          let l = lower (n y) (n x) h in
          rises-cons y (put_by_number n x ys) (All-put (λ z. n y ≤ n z) x ys (omega (arith, l)) (behind y ys up)) rest
      placed false h rest =
          let l = not_lower (n y) (n x) h in
          rises-cons x (y ∷ ys)
          (All-cons (λ z. n x ≤ n z) y ys l (λ i d m. (let b = behind y ys up i d m in omega (arith, l, b)))) up

  by_number-rises : (xs : List X) → IsNonDecreasingBy n (by_number n xs)
  by_number-rises [] = λ i j d le l. absurd (omega (arith, l))
  by_number-rises (x ∷ xs) = rises-put x (by_number n xs) (by_number-rises xs)

  -- ---- two lists in order with the same items of each number are the same

  none_lower : (k : ℕ) (ys : List X) → All (λ y. k < n y) ys → filter (at k) ys ≡ []
  none_lower k [] all = refl
  none_lower k (y ∷ ys) all =
      let l = All-head (λ z. k < n z) y ys all in
      ap (λ b. cond b (y ∷ filter (at k) ys) (filter (at k) ys)) (apart (n y) k (λ e. omega (arith, e, l)))
      ∙ none_lower k ys (All-tail (λ z. k < n z) y ys all)

  at_first : (x : X) (xs : List X) → filter (at (n x)) (x ∷ xs) ≡ x ∷ filter (at (n x)) xs
  at_first x xs = ap (λ b. cond b (x ∷ filter (at (n x)) xs) (filter (at (n x)) xs)) (tied (n x) (n x) refl)

  not_empty : (x : X) (xs : List X) → x ∷ xs ≡ [] → ⊥
  not_empty x xs e = absurd (let l : suc (length xs) ≡ 0 = ap length e in omega (arith, l))

  -- the first of one has no lower number than the first of the other
  first_no_lower : (x y : X) (xs ys : List X) → IsNonDecreasingBy n (y ∷ ys)
      → filter (at (n x)) (x ∷ xs) ≡ filter (at (n x)) (y ∷ ys) → n x < n y → ⊥
  first_no_lower x y xs ys up same l =
      not_empty x (filter (at (n x)) xs)
      (sym (at_first x xs) ∙ same
      ∙ none_lower (n x) (y ∷ ys)
      (All-cons (λ z. n x < n z) y ys l (λ i d m. (let b = behind y ys up i d m in omega (arith, l, b)))))

  abbrev first_or : X → List X → X
  first_or d [] = d
  first_or d (x ∷ xs) = x

  abbrev rest_of : List X → List X
  rest_of [] = []
  rest_of (x ∷ xs) = xs

  rest_alike : (x : X) (xs ys : List X) (k : ℕ) (b : Bool) → at k x ≡ b
      → filter (at k) (x ∷ xs) ≡ filter (at k) (x ∷ ys) → filter (at k) xs ≡ filter (at k) ys
  rest_alike x xs ys k true h same =
      ap rest_of (sym (ap (λ b. cond b (x ∷ filter (at k) xs) (filter (at k) xs)) h) ∙ same
      ∙ ap (λ b. cond b (x ∷ filter (at k) ys) (filter (at k) ys)) h)
  rest_alike x xs ys k false h same =
      sym (ap (λ b. cond b (x ∷ filter (at k) xs) (filter (at k) xs)) h) ∙ same
      ∙ ap (λ b. cond b (x ∷ filter (at k) ys) (filter (at k) ys)) h

  abbrev AreAlike : List X → List X → Type 0
  AreAlike xs ys = (k : ℕ) → filter (at k) xs ≡ filter (at k) ys

  same_first : (x y : X) (xs ys : List X) → IsNonDecreasingBy n (x ∷ xs) → IsNonDecreasingBy n (y ∷ ys)
      → AreAlike (x ∷ xs) (y ∷ ys) → x ≡ y
  same_first x y xs ys up_x up_y same =
      let one : n x < n y → ⊥ = first_no_lower x y xs ys up_y (same (n x)) in
      let other : n y < n x → ⊥ = first_no_lower y x ys xs up_x (sym (same (n y))) in
      let tie : n x ≡ n y = grind (arith, one, other) in
      ap (first_or x) (sym (at_first x xs) ∙ same (n x) ∙ ap (λ k. filter (at k) (y ∷ ys)) tie ∙ at_first y ys)

  same_items : (xs ys : List X) → IsNonDecreasingBy n xs → IsNonDecreasingBy n ys → AreAlike xs ys → xs ≡ ys
  same_items [] [] up_x up_y same = refl
  same_items [] (y ∷ ys) up_x up_y same =
      absurd (not_empty y (filter (at (n y)) ys) (sym (at_first y ys) ∙ sym (same (n y))))
  same_items (x ∷ xs) [] up_x up_y same = absurd (not_empty x (filter (at (n x)) xs) (sym (at_first x xs) ∙ same (n x)))
  same_items (x ∷ xs) (y ∷ ys) up_x up_y same =
      let e = same_first x y xs ys up_x up_y same in
      let alike : AreAlike (x ∷ xs) (x ∷ ys) = λ k. same k ∙ ap (λ z. filter (at k) (z ∷ ys)) (sym e) in
      let rest = same_items xs ys (rest_rises x xs up_x) (rest_rises y ys up_y)
      (λ k. rest_alike x xs ys k (at k x) refl (alike k)) in
      λ i. e i ∷ rest i

  -- items that don't fall, with the same of each number as some, are those in the order of their numbers
  is_by_number : (xs ys : List X) → IsNonDecreasingBy n ys → ((k : ℕ) → filter (at k) ys ≡ filter (at k) xs)
      → ys ≡ by_number n xs
  is_by_number xs ys up same = same_items ys (by_number n xs) up (by_number-rises xs)
      (λ k. same k ∙ sym (kept-by_number k xs))

  -- so what a stable sort by number leaves are the items in the order of their numbers
  pub sorted_by_number : (xs ys : List X) → IsSortedByKey n nat_cmp ys → IsStableByKey n nat_cmp xs ys
      → ys ≡ by_number n xs
  sorted_by_number xs ys sorted stable =
      is_by_number xs ys (IsNonDecreasingBy-from_sort n ys sorted)
      (kept nat_cmp nat_cmp_total exact_unsigned n xs ys stable)
