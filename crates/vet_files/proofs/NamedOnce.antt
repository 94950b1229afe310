-- Items put in the order of their names, and what is an item of a list.
use Rattle.std.proofs.Common.{◌≡◌, ◌⊎◌, ◌+◌, ◌≤◌, ℕ, suc, Bool, true, false, cond, List, [], ◌∷◌, ◌++◌, length, get_or}
use Rattle.std.proofs.Common.{map, filter, refl, sym, ap, ◌∙◌, subst, inl, inr, Ordering, Less, Equal, Greater, nat_cmp}
use Rattle.std.proofs.Common.{true≢false, arith}
use Rattle.std.specs.Cmp.Lexicographic.{slice_cmp}
use Rattle.std.specs.FinMap.{put, nat_cmp-IsAntisymmetric, slice_cmp-IsAntisymmetric}
use Rattle.std.specs.FinMap.Entries.{by_order}
use Rattle.std.specs.List.{All}
use Rattle.std.specs.Ordering.{is_eq, ordering_reverse}
use Rattle.std.proofs.lemmas.Cmp.{nat_list_cmp_total, tied_itself}
use Rattle.std.proofs.lemmas.List.Elements.{All-nil, All-cons, All-head, All-tail}
use Rattle.std.proofs.lemmas.List.Kept.{AllPairs-cons}
use Rattle.toml.specs.Data.{Data}
use Rattle.vet_base.specs.Items.{IsIn, NamedOnce, SameItems}
use Rattle.vet_files.specs.Tables.{by_name, members_from, put_all}

-- ---- items of a list

module _ {X : Type 0} where
  pub All-IsIn : (P : X → Type 0) (x : X) (xs : List X) → All P xs → IsIn x xs → P x
  All-IsIn P x [] h among = absurd among
  All-IsIn P x (y ∷ ys) h (inl here) = subst P (sym here) (All-head P y ys h)
  All-IsIn P x (y ∷ ys) h (inr among) = All-IsIn P x ys (All-tail P y ys h) among

  pub All-each_IsIn : (P : X → Type 0) (xs : List X) → ((x : X) → IsIn x xs → P x) → All P xs
  All-each_IsIn P [] h = All-nil P
  All-each_IsIn P (y ∷ ys) h = All-cons P y ys (h y (inl refl)) (All-each_IsIn P ys (λ x among. h x (inr among)))

  pub IsIn-left : (x : X) (xs ys : List X) → IsIn x xs → IsIn x (xs ++ ys)
  IsIn-left x [] ys among = absurd among
  IsIn-left x (y ∷ xs) ys (inl here) = inl here
  IsIn-left x (y ∷ xs) ys (inr among) = inr (IsIn-left x xs ys among)

  pub IsIn-right : (x : X) (xs ys : List X) → IsIn x ys → IsIn x (xs ++ ys)
  IsIn-right x [] ys among = among
  IsIn-right x (y ∷ xs) ys among = inr (IsIn-right x xs ys among)

  pub IsIn-either : (x : X) (xs ys : List X) → IsIn x (xs ++ ys) → IsIn x xs ⊎ IsIn x ys
  IsIn-either x [] ys among = inr among
  IsIn-either x (y ∷ xs) ys (inl here) = inl (inl here)
  IsIn-either x (y ∷ xs) ys (inr among) = elim (IsIn-either x xs ys among) [
    | inl first ↦ inl (inr first)
    | inr second ↦ inr second
  ]

  -- an item that passes is kept
  pub IsIn-filter : (p : X → Bool) (x : X) (xs : List X) → IsIn x xs → p x ≡ true → IsIn x (filter p xs)
  IsIn-filter p x [] among passes = absurd among
  IsIn-filter p x (y ∷ ys) (inl here) passes = subst (λ b. IsIn x (cond b (y ∷ filter p ys) (filter p ys)))
      (sym passes ∙ ap p here) (inl here)
  IsIn-filter p x (y ∷ ys) (inr among) passes = kept (p y) (IsIn-filter p x ys among passes)
    where
      kept : (b : Bool) → IsIn x (filter p ys) → IsIn x (cond b (y ∷ filter p ys) (filter p ys))
      kept true more = inr more
      kept false more = more

  -- an item that is kept is one that passes
  pub IsIn-of_filter : (p : X → Bool) (x : X) (xs : List X) → IsIn x (filter p xs) → IsIn x xs × (p x ≡ true)
  IsIn-of_filter p x [] among = absurd among
  IsIn-of_filter p x (y ∷ ys) among = from (p y) refl (IsIn-of_filter p x ys) among
    where
      from : (b : Bool) → p y ≡ b → (IsIn x (filter p ys) → IsIn x ys × (p x ≡ true))
          → IsIn x (cond b (y ∷ filter p ys) (filter p ys)) → IsIn x (y ∷ ys) × (p x ≡ true)
      from true is more (inl here) = (inl here, ap p here ∙ is)
      from true is more (inr kept) = let both = more kept in (inr both.0, both.1)
      from false is more kept = let both = more kept in (inr both.0, both.1)

  pub IsIn-of_map : {Y : Type 0} (f : X → Y) (y : Y) (xs : List X) → IsIn y (map f xs)
      → (x : X) × (IsIn x xs × (y ≡ f x))
  IsIn-of_map f y [] among = absurd among
  IsIn-of_map f y (x ∷ xs) (inl here) = (x, (inl refl, here))
  IsIn-of_map f y (x ∷ xs) (inr among) = let more = IsIn-of_map f y xs among in (more.0, (inr more.1.0, more.1.1))

-- ---- names and their order

-- names that tie are equal
pub same_name : (a b : List ℕ) → slice_cmp nat_cmp a b ≡ Equal → a ≡ b
same_name a b e = slice_cmp-IsAntisymmetric nat_cmp-IsAntisymmetric a b e

not_less_itself : (a b : List ℕ) → slice_cmp nat_cmp a b ≡ Less → a ≡ b → ⊥
not_less_itself a b less same =
    true≢false (sym (ap is_eq (tied_itself nat_list_cmp_total b)) ∙ ap (λ c. is_eq (slice_cmp nat_cmp c b)) (sym same)
    ∙ ap is_eq less)

-- ---- items by name

module _ {X : Type 0} (name : X → List ℕ) where
  -- an item in its place by the bytes of its name; one of an equal name goes
  abbrev pub with_named : X → List X → List X
  with_named x [] = x ∷ []
  with_named x (y ∷ ys) = by_order (slice_cmp nat_cmp (name x) (name y)) (x ∷ y ∷ ys) (x ∷ ys) (y ∷ with_named x ys)

  -- one after the other is put in its place
  abbrev pub with_all_named : List X → List X → List X
  with_all_named found [] = found
  with_all_named found (x ∷ rest) = with_all_named (with_named x found) rest

  abbrev pub sorted : List X → List X
  sorted xs = with_all_named [] xs

  -- ---- a table by name has the names in this order

  module _ (data_of : X → Data) where
    abbrev pair : X → List ℕ × Data
    pair x = (name x, data_of x)

    put-pair : (x : X) (ys : List X) → put (slice_cmp nat_cmp) (name x) (data_of x) (map pair ys)
        ≡ map pair (with_named x ys)
    put-pair x [] = refl
    put-pair x (y ∷ ys) = step (put-pair x ys) (slice_cmp nat_cmp (name x) (name y)) refl
      where
        step : put (slice_cmp nat_cmp) (name x) (data_of x) (map pair ys) ≡ map pair (with_named x ys)
            → (r : Ordering) → slice_cmp nat_cmp (name x) (name y) ≡ r
            → by_order r (pair x ∷ pair y ∷ map pair ys) ((name y, data_of x) ∷ map pair ys)
            (pair y ∷ put (slice_cmp nat_cmp) (name x) (data_of x) (map pair ys))
            ≡ map pair (by_order r (x ∷ y ∷ ys) (x ∷ ys) (y ∷ with_named x ys))
        step more Less e = refl
        step more Equal e = ap (λ (n : List ℕ). (n, data_of x) ∷ map pair ys) (sym (same_name (name x) (name y) e))
        step more Greater e = ap (λ (ps : List (List ℕ × Data)). pair y ∷ ps) more

    put_all-pairs : (found xs : List X) → put_all (map pair found) (map pair xs) ≡ map pair (with_all_named found xs)
    put_all-pairs found [] = refl
    put_all-pairs found (x ∷ rest) = ap (λ ps. put_all ps (map pair rest)) (put-pair x found)
        ∙ put_all-pairs (with_named x found) rest

    pub by_name-sorted : (xs : List X) → by_name (map (λ x. (name x, data_of x)) xs)
        ≡ members_from (map (λ x. (name x, data_of x)) (sorted xs))
    by_name-sorted xs = ap members_from (put_all-pairs [] xs)

  -- ---- what holds of each item

  with_named-All : (P : X → Type 0) (x : X) (ys : List X) → P x → All P ys → All P (with_named x ys)
  with_named-All P x [] h all = All-cons P x [] h all
  with_named-All P x (y ∷ ys) h all = step (with_named-All P x ys h (All-tail P y ys all))
      (slice_cmp nat_cmp (name x) (name y))
    where
      step : All P (with_named x ys) → (r : Ordering) → All P (by_order r (x ∷ y ∷ ys) (x ∷ ys) (y ∷ with_named x ys))
      step more Less = All-cons P x (y ∷ ys) h all
      step more Equal = All-cons P x ys h (All-tail P y ys all)
      step more Greater = All-cons P y (with_named x ys) (All-head P y ys all) more

  with_all_named-All : (P : X → Type 0) (found xs : List X) → All P found → All P xs → All P (with_all_named found xs)
  with_all_named-All P found [] held all = held
  with_all_named-All P found (x ∷ rest) held all =
      with_all_named-All P (with_named x found) rest (with_named-All P x found (All-head P x rest all) held)
      (All-tail P x rest all)

  pub sorted-All : (P : X → Type 0) (xs : List X) → All P xs → All P (sorted xs)
  sorted-All P xs all = with_all_named-All P [] xs (All-nil P) all

  -- ---- no two have the same name

  -- each name comes before the later ones
  abbrev Rise : List X → Type 0
  Rise [] = Unit {0}
  Rise (x ∷ xs) = All (λ y. slice_cmp nat_cmp (name x) (name y) ≡ Less) xs × Rise xs

  with_named-Rise : (x : X) (ys : List X) → Rise ys → Rise (with_named x ys)
  with_named-Rise x [] up = (All-nil (λ z. slice_cmp nat_cmp (name x) (name z) ≡ Less), tt)
  with_named-Rise x (y ∷ ys) up = step (with_named-Rise x ys up.1) (slice_cmp nat_cmp (name x) (name y)) refl
    where
      step : Rise (with_named x ys) → (r : Ordering) → slice_cmp nat_cmp (name x) (name y) ≡ r
          → Rise (by_order r (x ∷ y ∷ ys) (x ∷ ys) (y ∷ with_named x ys))
      step more Less e = (
        All-cons (λ z. slice_cmp nat_cmp (name x) (name z) ≡ Less) y ys e
            (λ k d l. nat_list_cmp_total.trans (name x) (name y) _ e (up.0 k d l)),
        up,
      )
      step more Equal e = (
        subst (λ n. All (λ z. slice_cmp nat_cmp n (name z) ≡ Less) ys)
            (sym (same_name (name x) (name y) e)) up.0,
        up.1,
      )
      step more Greater e = (
        with_named-All (λ z. slice_cmp nat_cmp (name y) (name z) ≡ Less) x ys
            (nat_list_cmp_total.antisymm (name y) (name x) ∙ ap ordering_reverse e) up.0,
        more,
      )

  with_all_named-Rise : (found xs : List X) → Rise found → Rise (with_all_named found xs)
  with_all_named-Rise found [] up = up
  with_all_named-Rise found (x ∷ rest) up = with_all_named-Rise (with_named x found) rest (with_named-Rise x found up)

  Rise-NamedOnce : (xs : List X) → Rise xs → NamedOnce name xs
  Rise-NamedOnce [] up = λ i j d l m. absurd (omega arith)
  Rise-NamedOnce (x ∷ xs) up =
      AllPairs-cons (λ a b. name a ≡ name b → ⊥) x xs
      (λ k d l. not_less_itself (name x) (name (get_or xs k d)) (up.0 k d l)) (Rise-NamedOnce xs up.1)

  -- also where some of the list had
  pub sorted-NamedOnce : (xs : List X) → NamedOnce name (sorted xs)
  sorted-NamedOnce xs = Rise-NamedOnce (sorted xs) (with_all_named-Rise [] xs tt)

  -- ---- no name is lost

  abbrev IsNamedIn : X → List X → Type 0
  IsNamedIn x ys = (y : X) × (IsIn y ys × (name x ≡ name y))

  named_later : (x z : X) (ys : List X) → IsNamedIn x ys → IsNamedIn x (z ∷ ys)
  named_later x z ys (y, (among, same)) = (y, (inr among, same))

  with_named-named : (x : X) (ys : List X) (z : X) → (name z ≡ name x) ⊎ IsNamedIn z ys → IsNamedIn z (with_named x ys)
  with_named-named x [] z (inl here) = (x, (inl refl, here))
  with_named-named x [] z (inr among) = absurd among.1.0
  with_named-named x (y ∷ ys) z h = step (with_named-named x ys z) (slice_cmp nat_cmp (name x) (name y)) refl h
    where
      step : ((name z ≡ name x) ⊎ IsNamedIn z ys → IsNamedIn z (with_named x ys)) → (r : Ordering)
          → slice_cmp nat_cmp (name x) (name y) ≡ r
          → (name z ≡ name x) ⊎ IsNamedIn z (y ∷ ys)
          → IsNamedIn z (by_order r (x ∷ y ∷ ys) (x ∷ ys) (y ∷ with_named x ys))
      step more Less e (inl here) = (x, (inl refl, here))
      step more Less e (inr among) = named_later z x (y ∷ ys) among
      step more Equal e (inl here) = (x, (inl refl, here))
      step more Equal e (inr (w, (inl first, same))) =
          (x, (inl refl, same ∙ ap name first ∙ sym (same_name (name x) (name y) e)))
      step more Equal e (inr (w, (inr later, same))) = (w, (inr later, same))
      step more Greater e (inl here) = named_later z y (with_named x ys) (more (inl here))
      step more Greater e (inr (w, (inl first, same))) = (w, (inl first, same))
      step more Greater e (inr (w, (inr later, same))) = named_later z y (with_named x ys)
          (more (inr (w, (later, same))))

  with_all_named-named : (found xs : List X) (z : X) → IsNamedIn z found ⊎ IsIn z xs
      → IsNamedIn z (with_all_named found xs)
  with_all_named-named found [] z (inl among) = among
  with_all_named-named found [] z (inr none) = absurd none
  with_all_named-named found (x ∷ rest) z (inl among) = with_all_named-named (with_named x found) rest z
      (inl (with_named-named x found z (inr among)))
  with_all_named-named found (x ∷ rest) z (inr (inl here)) = with_all_named-named (with_named x found) rest z
      (inl (with_named-named x found z (inl (ap name here))))
  with_all_named-named found (x ∷ rest) z (inr (inr later)) = with_all_named-named (with_named x found) rest z
      (inr later)

  -- each item has one of its name
  pub sorted-named : (xs : List X) (x : X) → IsIn x xs → (y : X) × (IsIn y (sorted xs) × (name x ≡ name y))
  sorted-named xs x among = with_all_named-named [] xs x (inr among)

  -- ---- where no two have the same name, the items are the same

  abbrev IsFresh : List X → X → Type 0
  IsFresh ys x = All (λ y. name y ≡ name x → ⊥) ys

  first_apart : (x : X) (xs : List X) → NamedOnce name (x ∷ xs) → All (λ y. name x ≡ name y → ⊥) xs
  first_apart x xs once k d l = once 0 (suc k) d (omega arith) (omega arith)

  others_apart : (x : X) (xs : List X) → NamedOnce name (x ∷ xs) → NamedOnce name xs
  others_apart x xs once i j d l m = once (suc i) (suc j) d (omega arith) (omega arith)

  -- none of a list has the name of one of the others, and no two of these have one name
  abbrev AreNew : List X → List X → Type 0
  AreNew found xs = All (IsFresh found) xs × NamedOnce name xs

  new_later : (found : List X) (x : X) (rest : List X) → AreNew found (x ∷ rest) → AreNew (with_named x found) rest
  new_later found x rest new = (
    λ k d l. with_named-All (λ y. name y ≡ name (get_or rest k d) → ⊥) x found (first_apart x rest new.1 k d l)
        (All-tail (IsFresh found) x rest new.0 k d l),
    others_apart x rest new.1,
  )

  of_with_named : (x : X) (ys : List X) (z : X) → IsIn z (with_named x ys) → (z ≡ x) ⊎ IsIn z ys
  of_with_named x [] z among = among
  of_with_named x (y ∷ ys) z among = step (of_with_named x ys z) (slice_cmp nat_cmp (name x) (name y)) among
    where
      step : (IsIn z (with_named x ys) → (z ≡ x) ⊎ IsIn z ys) → (r : Ordering)
          → IsIn z (by_order r (x ∷ y ∷ ys) (x ∷ ys) (y ∷ with_named x ys)) → (z ≡ x) ⊎ IsIn z (y ∷ ys)
      step more Less among = among
      step more Equal (inl here) = inl here
      step more Equal (inr later) = inr (inr later)
      step more Greater (inl here) = inr (inl here)
      step more Greater (inr later) = elim (more later) [
        | inl here ↦ inl here
        | inr other ↦ inr (inr other)
      ]

  to_with_named : (x : X) (ys : List X) (z : X) → IsFresh ys x → (z ≡ x) ⊎ IsIn z ys → IsIn z (with_named x ys)
  to_with_named x [] z fresh h = h
  to_with_named x (y ∷ ys) z fresh h =
      step (to_with_named x ys z (All-tail (λ w. name w ≡ name x → ⊥) y ys fresh)) (slice_cmp nat_cmp (name x) (name y))
      refl h
    where
      step : ((z ≡ x) ⊎ IsIn z ys → IsIn z (with_named x ys)) → (r : Ordering) → slice_cmp nat_cmp (name x) (name y) ≡ r
          → (z ≡ x) ⊎ IsIn z (y ∷ ys) → IsIn z (by_order r (x ∷ y ∷ ys) (x ∷ ys) (y ∷ with_named x ys))
      step more Less e h = h
      step more Equal e h =
          absurd (All-head (λ w. name w ≡ name x → ⊥) y ys fresh (sym (same_name (name x) (name y) e)))
      step more Greater e (inl here) = inr (more (inl here))
      step more Greater e (inr (inl first)) = inl first
      step more Greater e (inr (inr later)) = inr (more (inr later))

  of_with_all_named : (found xs : List X) (z : X) → IsIn z (with_all_named found xs) → IsIn z found ⊎ IsIn z xs
  of_with_all_named found [] z among = inl among
  of_with_all_named found (x ∷ rest) z among = elim (of_with_all_named (with_named x found) rest z among) [
    | inl first ↦ elim (of_with_named x found z first) [
      | inl here ↦ inr (inl here)
      | inr before ↦ inl before
    ]
    | inr later ↦ inr (inr later)
  ]

  to_with_all_named : (found xs : List X) (z : X) → AreNew found xs → IsIn z found ⊎ IsIn z xs
      → IsIn z (with_all_named found xs)
  to_with_all_named found [] z new (inl among) = among
  to_with_all_named found [] z new (inr none) = absurd none
  to_with_all_named found (x ∷ rest) z new h = to_with_all_named (with_named x found) rest z
      (new_later found x rest new) (there h)
    where
      there : IsIn z found ⊎ IsIn z (x ∷ rest) → IsIn z (with_named x found) ⊎ IsIn z rest
      there (inl among) = inl (to_with_named x found z (All-head (IsFresh found) x rest new.0) (inr among))
      there (inr (inl here)) = inl (to_with_named x found z (All-head (IsFresh found) x rest new.0) (inl here))
      there (inr (inr later)) = inr later

  new_to_none : (xs : List X) → NamedOnce name xs → AreNew [] xs
  new_to_none xs once = (λ k d l. All-nil (λ y. name y ≡ name (get_or xs k d) → ⊥), once)

  pub sorted-SameItems : (xs : List X) → NamedOnce name xs → SameItems xs (sorted xs)
  sorted-SameItems xs once = (
    λ z among. to_with_all_named [] xs z (new_to_none xs once) (inr among),
    λ z among. elim (of_with_all_named [] xs z among) [
      | inl none ↦ absurd none
      | inr there ↦ there
    ],
  )

  -- ---- there are no more

  with_named-length : (x : X) (ys : List X) → length (with_named x ys) ≤ suc (length ys)
  with_named-length x [] = omega arith
  with_named-length x (y ∷ ys) = step (with_named-length x ys) (slice_cmp nat_cmp (name x) (name y))
    where
      step : length (with_named x ys) ≤ suc (length ys) → (r : Ordering)
          → length (by_order r (x ∷ y ∷ ys) (x ∷ ys) (y ∷ with_named x ys)) ≤ suc (length (y ∷ ys))
      step more Less = omega arith
      step more Equal = omega arith
      step more Greater = omega arith

  with_all_named-length : (found xs : List X) → length (with_all_named found xs) ≤ length found + length xs
  with_all_named-length found [] = omega arith
  with_all_named-length found (x ∷ rest) =
      let first = with_named-length x found in
      let later = with_all_named-length (with_named x found) rest in
      omega arith

  pub sorted-length : (xs : List X) → length (sorted xs) ≤ length xs
  sorted-length xs = let most = with_all_named-length [] xs in omega arith
