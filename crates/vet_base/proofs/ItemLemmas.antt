-- Lists of items taken as sets.
use Rattle.std.proofs.Common.{◌≡◌, ◌≢◌, ◌≤◌, ◌⊎◌, inl, inr, Bool, true, false, cond, ◌||◌, List, [], ◌∷◌, ◌++◌, length}
use Rattle.std.proofs.Common.{map, suc, refl, sym, ap, subst, ◌∙◌, arith}
use Rattle.std.specs.List.{All, AllPairs, filter, list_any}
use Rattle.std.proofs.lemmas.Bool.{false≢true}
use Rattle.std.proofs.lemmas.List.Elements.{All-nil, All-cons, All-head, All-tail}
use Rattle.std.proofs.lemmas.List.Kept.{AllPairs-cons}
use Rattle.vet_base.specs.Items.{IsIn}

-- ---- items of lists

module _ {X : Type 0} where
  pub all_in : (P : X → Type 0) (xs : List X) → ((x : X) → IsIn x xs → P x) → All P xs
  all_in P [] h = All-nil P
  all_in P (x ∷ xs) h = All-cons P x xs (h x (inl refl)) (all_in P xs (λ y i. h y (inr i)))

  pub in_all : (P : X → Type 0) (xs : List X) → All P xs → (x : X) → IsIn x xs → P x
  in_all P [] h x i = absurd i
  in_all P (y ∷ xs) h x (inl e) = subst P (sym e) (All-head P y xs h)
  in_all P (y ∷ xs) h x (inr i) = in_all P xs (All-tail P y xs h) x i

  pub in_append : (xs ys : List X) (x : X) → IsIn x (xs ++ ys) → IsIn x xs ⊎ IsIn x ys
  in_append [] ys x i = inr i
  in_append (y ∷ xs) ys x (inl e) = inl (inl e)
  in_append (y ∷ xs) ys x (inr i) = elim (in_append xs ys x i) [ inl l ↦ inl (inr l) | inr r ↦ inr r ]

  pub in_front : (xs ys : List X) (x : X) → IsIn x xs → IsIn x (xs ++ ys)
  in_front [] ys x i = absurd i
  in_front (y ∷ xs) ys x (inl e) = inl e
  in_front (y ∷ xs) ys x (inr i) = inr (in_front xs ys x i)

  pub in_back : (xs ys : List X) (x : X) → IsIn x ys → IsIn x (xs ++ ys)
  in_back [] ys x i = i
  in_back (y ∷ xs) ys x i = inr (in_back xs ys x i)

  pub in_filter : (p : X → Bool) (xs : List X) (x : X) → IsIn x (filter p xs) → IsIn x xs × (p x ≡ true)
  in_filter p [] x i = absurd i
  in_filter p (y ∷ xs) x i = by (in_filter p xs x) (p y) refl i
    where
      by : (IsIn x (filter p xs) → IsIn x xs × (p x ≡ true)) → (b : Bool) → p y ≡ b
          → IsIn x (cond b (y ∷ filter p xs) (filter p xs)) → IsIn x (y ∷ xs) × (p x ≡ true)
      by rest true t (inl e) = (inl e, ap p e ∙ t)
      by rest true t (inr j) = (inr (rest j).0, (rest j).1)
      by rest false t j = (inr (rest j).0, (rest j).1)

  pub filter_in : (p : X → Bool) (xs : List X) (x : X) → IsIn x xs → p x ≡ true → IsIn x (filter p xs)
  filter_in p [] x i t = absurd i
  filter_in p (y ∷ xs) x i t = by (λ j. filter_in p xs x j t) (p y) refl i
    where
      by : (IsIn x xs → IsIn x (filter p xs)) → (b : Bool) → p y ≡ b → IsIn x (y ∷ xs)
          → IsIn x (cond b (y ∷ filter p xs) (filter p xs))
      by rest true s (inl e) = inl e
      by rest true s (inr j) = inr (rest j)
      by rest false s (inl e) = absurd (false≢true (sym s ∙ ap p (sym e) ∙ t))
      by rest false s (inr j) = rest j

  pub in_any : (p : X → Bool) (xs : List X) (x : X) → IsIn x xs → p x ≡ true → list_any p xs ≡ true
  in_any p [] x i t = absurd i
  in_any p (y ∷ xs) x (inl e) t = ap (λ b. b || list_any p xs) (ap p (sym e) ∙ t)
  in_any p (y ∷ xs) x (inr i) t = ap (λ b. p y || b) (in_any p xs x i t) ∙ or_true (p y)
    where
      or_true : (b : Bool) → (b || true) ≡ true
      or_true true = refl
      or_true false = refl

  pub any_in : (p : X → Bool) (xs : List X) → list_any p xs ≡ true → (x : X) × (IsIn x xs × (p x ≡ true))
  any_in p [] t = absurd (false≢true t)
  any_in p (y ∷ xs) t = by (any_in p xs) (p y) refl t
    where
      by : (list_any p xs ≡ true → (x : X) × (IsIn x xs × (p x ≡ true))) → (b : Bool) → p y ≡ b → (b || list_any p xs)
          ≡ true → (x : X) × (IsIn x (y ∷ xs) × (p x ≡ true))
      by rest true s u = (y, (inl refl, s))
      by rest false s u = (let h = rest u in (h.0, (inr h.1.0, h.1.1)))

  pub in_map : {Y : Type 0} (f : X → Y) (xs : List X) (y : Y) → IsIn y (map f xs) → (x : X) × (IsIn x xs × (y ≡ f x))
  in_map f [] y i = absurd i
  in_map f (x ∷ xs) y (inl e) = (x, (inl refl, e))
  in_map f (x ∷ xs) y (inr i) = (let h = in_map f xs y i in (h.0, (inr h.1.0, h.1.1)))

  pub map_in : {Y : Type 0} (f : X → Y) (xs : List X) (x : X) → IsIn x xs → IsIn (f x) (map f xs)
  map_in f [] x i = absurd i
  map_in f (y ∷ xs) x (inl e) = inl (ap f e)
  map_in f (y ∷ xs) x (inr i) = inr (map_in f xs x i)

  -- ---- pairs of items

  pub pairs_head : (R : X → X → Type 0) (x : X) (xs : List X) → AllPairs R (x ∷ xs) → All (R x) xs
  pairs_head R x xs h k d l = h 0 (suc k) d (omega arith) (omega (arith, l))

  pub pairs_tail : (R : X → X → Type 0) (x : X) (xs : List X) → AllPairs R (x ∷ xs) → AllPairs R xs
  pairs_tail R x xs h i j d b l = h (suc i) (suc j) d (omega (arith, b)) (omega (arith, l))

  pub pairs_none : (R : X → X → Type 0) → AllPairs R []
  pairs_none R i j d b l = absurd (omega (arith, l))

  pub pairs_append : (R : X → X → Type 0) (xs ys : List X) → AllPairs R xs → AllPairs R ys
      → ((x y : X) → IsIn x xs → IsIn y ys → R x y) → AllPairs R (xs ++ ys)
  pairs_append R [] ys h k c = k
  pairs_append R (x ∷ xs) ys h k c =
      AllPairs-cons R x (xs ++ ys)
      (all_in (R x) (xs ++ ys)
      (λ y i. elim (in_append xs ys y i) [
        | inl l ↦ in_all (R x) xs (pairs_head R x xs h) y l
        | inr r ↦
            c x y (inl refl) r
      ]))
      (pairs_append R xs ys (pairs_tail R x xs h) k (λ z y i j. c z y (inr i) j))

  -- ---- lists without doubles are no longer than what holds their items

  taken_out : (x : X) (ys : List X) → IsIn x ys → (zs : List X)
      × ((length ys ≡ suc (length zs)) × ((y : X) → IsIn y ys → y ≢ x → IsIn y zs))
  taken_out x [] i = absurd i
  taken_out x (z ∷ ys) (inl e) = (ys, (refl, λ y j n. elim j [ inl f ↦ absurd (n (f ∙ sym e)) | inr k ↦ k ]))
  taken_out x (z ∷ ys) (inr i) = (let h = taken_out x ys i in
      (z ∷ h.0, (ap suc h.1.0, λ y j n. elim j [ inl f ↦ inl f | inr k ↦ inr (h.1.1 y k n) ])))

  pub no_longer : (xs ys : List X) → AllPairs (λ x y. x ≢ y) xs → ((x : X) → IsIn x xs → IsIn x ys)
      → length xs ≤ length ys
  no_longer [] ys h s = omega arith
  no_longer (x ∷ xs) ys h s =
      let out = taken_out x ys (s x (inl refl)) in
      let rest : length xs ≤ length out.0 =
      no_longer xs out.0 (pairs_tail (λ y z. y ≢ z) x xs h)
      (λ y i. out.1.1 y (s y (inr i)) (λ e. in_all (λ z. x ≢ z) xs (pairs_head (λ z w. z ≢ w) x xs h) y i (sym e)))
      in
      omega (arith, rest, out.1.0)
