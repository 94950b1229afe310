-- Laws of lists.
use Rattle.std.proofs.Common.{◌≡◌, suc, ◌≤◌, Bool, true, false, is_none, is_some, List, [], ◌∷◌, ◌++◌, map, length}
use Rattle.std.proofs.Common.{filter, Option, Some, None, refl, arith, inl, inr}
use Rattle.std.specs.List.{All, AllPairs, find, list_any}
use Rattle.std.proofs.lemmas.Bool.{cases_Bool}
use Rattle.std.proofs.lemmas.List.Elements.{All-nil, All-cons, All-head, All-tail, All-append}
use Rattle.std.proofs.lemmas.List.Kept.{AllPairs-cons}

-- what is not missing is there
pub some_item : {X : Type 0} (o : Option X) → is_none o ≡ false → is_some o ≡ true
some_item None h = cc h
some_item (Some x) h = refl

module _ {X : Type 0} (R : X → X → Type 0) where
  pub AllPairs-head : (x : X) (xs : List X) → AllPairs R (x ∷ xs) → All (R x) xs
  AllPairs-head x xs h k d l = h 0 (suc k) d (omega arith) (omega arith)

  pub AllPairs-tail : (x : X) (xs : List X) → AllPairs R (x ∷ xs) → AllPairs R xs
  AllPairs-tail x xs h i j d l m = h (suc i) (suc j) d (omega arith) (omega arith)

  pub AllPairs-append : (xs ys : List X) → AllPairs R xs → AllPairs R ys → All (λ x. All (R x) ys) xs → AllPairs R
      (xs ++ ys)
  AllPairs-append [] ys h g across = g
  AllPairs-append (x ∷ xs) ys h g across =
      AllPairs-cons R x (xs ++ ys)
      (All-append (R x) xs ys (AllPairs-head x xs h) (All-head (λ z. All (R z) ys) x xs across))
      (AllPairs-append xs ys (AllPairs-tail x xs h) g (All-tail (λ z. All (R z) ys) x xs across))

  pub AllPairs-single : (x : X) → AllPairs R (x ∷ [])
  AllPairs-single x i j d l m = absurd (omega arith)

module _ {X Y : Type 0} (f : X → Y) (R : Y → Y → Type 0) where
  all_of_map : (y : Y) (xs : List X) → All (λ x. R y (f x)) xs → All (R y) (map f xs)
  all_of_map y [] h = All-nil _
  all_of_map y (x ∷ xs) h = All-cons (R y) (f x) (map f xs) (All-head (λ z. R y (f z)) x xs h)
      (all_of_map y xs (All-tail (λ z. R y (f z)) x xs h))

  pub AllPairs-map : (xs : List X) → AllPairs (λ x y. R (f x) (f y)) xs → AllPairs R (map f xs)
  AllPairs-map [] h = λ i j d l m. absurd (omega arith)
  AllPairs-map (x ∷ xs) h =
      AllPairs-cons R (f x) (map f xs) (all_of_map (f x) xs (AllPairs-head (λ a b. R (f a) (f b)) x xs h))
      (AllPairs-map xs (AllPairs-tail (λ a b. R (f a) (f b)) x xs h))

module _ {X : Type 0} where
  -- what fails one test fails the other
  pub find-none : (p q : X → Bool) → ((x : X) → p x ≡ false → q x ≡ false) → (xs : List X) → find p xs ≡ None → find q
      xs ≡ None
  find-none p q fails [] e = refl
  find-none p q fails (x ∷ xs) e = elim (cases_Bool (p x)) [
    | inl passes ↦ (let e' = rw passes at e in cc e')
    | inr fails_here ↦ rw (fails x fails_here) (find-none p q fails xs (rw fails_here at e))
  ]

  -- the same among the elements that pass no third test
  pub find-none_among : (r p q : X → Bool) → ((x : X) → r x ≡ false → p x ≡ false → q x ≡ false) → (xs : List X) →
      list_any r xs ≡ false → find p xs ≡ None → find q xs ≡ None
  find-none_among r p q fails [] a e = refl
  find-none_among r p q fails (x ∷ xs) a e = elim (cases_Bool (r x)) [
    | inl out ↦ (let a' = rw out at a in cc a')
    | inr within ↦ elim (cases_Bool (p x)) [
      | inl passes ↦ (let e' = rw passes at e in cc e')
      | inr fails_here ↦ rw (fails x within fails_here)
          (find-none_among r p q fails xs (rw within at a) (rw fails_here at e))
    ]
  ]

  -- each element fails a test that finds none
  pub all_fail : (p : X → Bool) (xs : List X) → find p xs ≡ None → All (λ x. p x ≡ false) xs
  all_fail p [] e = All-nil _
  all_fail p (x ∷ xs) e = elim (cases_Bool (p x)) [
    | inl passes ↦ (let e' = rw passes at e in cc e')
    | inr fails_here ↦ All-cons (λ z. p z ≡ false) x xs fails_here (all_fail p xs (rw fails_here at e))
  ]

  pub none_pass : (p : X → Bool) (xs : List X) → list_any p xs ≡ false → All (λ x. p x ≡ false) xs
  none_pass p [] e = All-nil _
  none_pass p (x ∷ xs) e = elim (cases_Bool (p x)) [
    | inl passes ↦ (let e' = rw passes at e in cc e')
    | inr fails_here ↦ All-cons (λ z. p z ≡ false) x xs fails_here (none_pass p xs (rw fails_here at e))
  ]

  pub filter-fewer : (p : X → Bool) (xs : List X) → length (filter p xs) ≤ length xs
  filter-fewer p [] = omega arith
  filter-fewer p (x ∷ xs) = elim (cases_Bool (p x)) [
    | inl passes ↦ rw passes (omega (arith, filter-fewer p xs))
    | inr fails_here ↦ rw fails_here (omega (arith, filter-fewer p xs))
  ]
