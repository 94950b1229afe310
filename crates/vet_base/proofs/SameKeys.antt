-- Keys that are put where they belong by an order, and lists in order with the same keys.
use Rattle.std.proofs.Common.{◌≡◌, ◌⊎◌, List, [], ◌∷◌, refl, sym, ap, ◌∙◌, inl, inr, Ordering, Less, Equal, Greater}
use Rattle.std.proofs.Common.{arith}
use Rattle.std.specs.Prelude.{fold}
use Rattle.std.specs.BTreeSet.{insert_key}
use Rattle.std.specs.Cmp.{IsTotalOrder, tied_itself}
use Rattle.std.specs.List.{AllPairs, Contains}
use Rattle.std.specs.Ordering.{match_ordering, ordering_reverse}
use Rattle.std.proofs.lemmas.List.Elements.{All-nil, All-cons, All-contains, All-contains_itself}
use Rattle.std.proofs.lemmas.List.Kept.{AllPairs-cons}
use Rattle.std.proofs.lemmas.Map.Views.{All-insert_key}
use Rattle.vet_base.proofs.ItemLemmas.{pairs_head, pairs_tail}
use Rattle.vet_base.proofs.ListLemmas.{Contains-cons_cases, Contains-here, Contains-later}

module _ {K : Type 0} (cmp : K → K → Ordering) (total : IsTotalOrder cmp) where
  abbrev pub Rises : K → K → Type 0
  Rises a b = cmp a b ≡ Less

  -- ---- one key more

  -- the keys stay in order
  pub put_rises : (keys : List K) (k : K) → AllPairs Rises keys → AllPairs Rises (insert_key cmp keys k)
  put_rises [] k up = AllPairs-cons Rises k [] (All-nil (Rises k)) up
  put_rises (x ∷ rest) k up = step (put_rises rest k (pairs_tail Rises x rest up)) (cmp k x) refl
    where
      step : AllPairs Rises (insert_key cmp rest k) → (r : Ordering) → cmp k x ≡ r
          → AllPairs Rises (match_ordering r (k ∷ x ∷ rest) (x ∷ rest) (x ∷ insert_key cmp rest k))
      step more Less e =
          AllPairs-cons Rises k (x ∷ rest)
          (All-cons (Rises k) x rest e (λ j d l. total.trans k x _ e (pairs_head Rises x rest up j d l))) up
      step more Equal e = up
      step more Greater e =
          AllPairs-cons Rises x (insert_key cmp rest k)
          (All-insert_key cmp k (Rises x) rest (pairs_head Rises x rest up)
          (total.antisymm x k ∙ ap ordering_reverse e)) more

  -- a key that is among them is the new one or was there before
  pub from_put : (keys : List K) (k x : K) → Contains (insert_key cmp keys k) x → (k ≡ x) ⊎ Contains keys x
  from_put keys k x held =
      All-contains (λ y. (k ≡ y) ⊎ Contains keys y) (insert_key cmp keys k) x
      (All-insert_key cmp k (λ y. (k ≡ y) ⊎ Contains keys y) keys (λ j d l. inr (All-contains_itself keys j d l))
      (inl refl)) held

  -- the new one and those that were there are among them, where none ties with it but itself
  pub to_put : (keys : List K) (k : K) → ((y : K) → Contains keys y → cmp k y ≡ Equal → y ≡ k) → (x : K)
      → (k ≡ x) ⊎ Contains keys x
      → Contains (insert_key cmp keys k) x
  to_put [] k only x (inl here) = (0, omega arith, here)
  to_put [] k only x (inr held) = absurd (omega (arith, held.1))
  to_put (y ∷ rest) k only x h =
      step (to_put rest k (λ z held. only z (Contains-later y z rest held)) x) (cmp k y) refl h
    where
      step : ((k ≡ x) ⊎ Contains rest x → Contains (insert_key cmp rest k) x) → (r : Ordering) → cmp k y ≡ r
          → (k ≡ x) ⊎ Contains (y ∷ rest) x
          → Contains (match_ordering r (k ∷ y ∷ rest) (y ∷ rest) (y ∷ insert_key cmp rest k)) x
      step more Less e (inl here) = (0, omega arith, here)
      step more Less e (inr held) = Contains-later k x (y ∷ rest) held
      step more Equal e (inl here) = (0, omega arith, only y (Contains-here y rest) e ∙ here)
      step more Equal e (inr held) = held
      step more Greater e (inl here) = Contains-later y x (insert_key cmp rest k) (more (inl here))
      step more Greater e (inr held) = elim (Contains-cons_cases y rest x held) [
        | inl head ↦ (0, omega arith, head)
        | inr tail ↦ Contains-later y x (insert_key cmp rest k) (more (inr tail))
      ]

  -- ---- all keys of a list

  pub all_rise : (keys more : List K) → AllPairs Rises keys → AllPairs Rises (fold (insert_key cmp) keys more)
  all_rise keys [] up = up
  all_rise keys (k ∷ more) up = all_rise (insert_key cmp keys k) more (put_rises keys k up)

  pub from_all : (keys more : List K) (x : K) → Contains (fold (insert_key cmp) keys more) x
      → Contains keys x ⊎ Contains more x
  from_all keys [] x held = inl held
  from_all keys (k ∷ more) x held = elim (from_all (insert_key cmp keys k) more x held) [
    | inr later ↦ inr (Contains-later k x more later)
    | inl there ↦ elim (from_put keys k x there) [
      | inl here ↦ inr (0, omega arith, here)
      | inr before ↦ inl before
    ]
  ]

  pub to_all : ((a b : K) → cmp a b ≡ Equal → a ≡ b) → (keys more : List K) (x : K) → Contains keys x ⊎ Contains more x
      → Contains (fold (insert_key cmp) keys more) x
  to_all only keys [] x (inl held) = held
  to_all only keys [] x (inr held) = absurd (omega (arith, held.1))
  to_all only keys (k ∷ more) x (inl held) =
      to_all only (insert_key cmp keys k) more x (inl (to_put keys k (λ y _ e. sym (only k y e)) x (inr held)))
  to_all only keys (k ∷ more) x (inr held) = elim (Contains-cons_cases k more x held) [
    | inl here ↦ to_all only (insert_key cmp keys k) more x
        (inl (to_put keys k (λ y _ e. sym (only k y e)) x (inl here)))
    | inr later ↦ to_all only (insert_key cmp keys k) more x (inr later)
  ]

  -- ---- lists in order with the same keys are the same

  pub later : (x : K) (xs : List K) (p : K) → AllPairs Rises (x ∷ xs) → Contains xs p → Rises x p
  later x xs p up held = All-contains (Rises x) xs p (pairs_head Rises x xs up) held

  not_both : (p q : K) → Rises p q → Rises q p → ⊥
  not_both p q first second = cc (sym first ∙ total.antisymm p q ∙ ap ordering_reverse second)

  not_itself : (p q : K) → p ≡ q → Rises p q → ⊥
  not_itself p q same up = cc (sym up ∙ ap (λ r. cmp r q) same ∙ tied_itself total q)

  same_heads : (x : K) (xs : List K) (y : K) (ys : List K) → AllPairs Rises (x ∷ xs) → AllPairs Rises (y ∷ ys)
      → Contains (y ∷ ys) x → Contains (x ∷ xs) y → x ≡ y
  same_heads x xs y ys up_x up_y x_held y_held = elim (Contains-cons_cases y ys x x_held) [
    | inl same ↦ sym same
    | inr x_later ↦ elim (Contains-cons_cases x xs y y_held) [
      | inl same ↦ same
      | inr y_later ↦ absurd (not_both x y (later x xs y up_x y_later) (later y ys x up_y x_later))
    ]
  ]

  -- what is behind one head is behind the other
  tail_held : (x : K) (xs : List K) (y : K) (ys : List K) → AllPairs Rises (x ∷ xs) → x ≡ y → (p : K) → Contains xs p
      → Contains (y ∷ ys) p → Contains ys p
  tail_held x xs y ys up same p held among = elim (Contains-cons_cases y ys p among) [
    | inl head ↦ absurd (not_itself x p (same ∙ head) (later x xs p up held))
    | inr tail ↦ tail
  ]

  pub same_keys : (xs ys : List K) → AllPairs Rises xs → AllPairs Rises ys → ((p : K) → Contains xs p → Contains ys p)
      → ((p : K) → Contains ys p → Contains xs p) → xs ≡ ys
  same_keys [] [] up_x up_y there back = refl
  same_keys [] (y ∷ ys) up_x up_y there back =
      (let held = back y (0, omega arith, refl) in absurd (omega (arith, held.1)))
  same_keys (x ∷ xs) [] up_x up_y there back =
      (let held = there x (0, omega arith, refl) in absurd (omega (arith, held.1)))
  same_keys (x ∷ xs) (y ∷ ys) up_x up_y there back =
      let same = same_heads x xs y ys up_x up_y (there x (0, omega arith, refl)) (back y (0, omega arith, refl)) in
      let rest = same_keys xs ys (pairs_tail Rises x xs up_x) (pairs_tail Rises y ys up_y)
      (λ p held. tail_held x xs y ys up_x same p held (there p (Contains-later x p xs held)))
      (λ p held. tail_held y ys x xs up_y (sym same) p held (back p (Contains-later y p ys held))) in
      λ i. same i ∷ rest i
