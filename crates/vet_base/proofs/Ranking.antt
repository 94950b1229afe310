-- Values in an order in which different ones may tie.
use Rattle.std.proofs.Common.{◌≡◌, ℕ, zero, suc, ◌+◌, ◌-◌, ◌<◌, ◌≤◌, List, [], ◌∷◌, true, false, get_or, length}
use Rattle.std.proofs.Common.{refl, sym}
use Rattle.std.proofs.Common.{ap, subst, ◌∙◌, inl, inr, Ordering, Less, Equal, Greater, arith}
use Rattle.std.specs.Cmp.{Equal-is, IsTotalOrder, eq_by_cmp_equiv, tied_itself}
use Rattle.std.specs.List.{AllAdjacentBelow, Contains, dedup}
use Rattle.std.specs.List.Sorted.{IsPermutation, IsSorted, IsStrictlySortedBy}
use Rattle.std.specs.Ordering.{eq_by_cmp, is_ge, ordering_reverse}
use Rattle.std.proofs.lemmas.Bool.{false≢true}
use Rattle.std.proofs.lemmas.List.{get_or_read}
use Rattle.std.proofs.lemmas.List.Elements.{All-from_recursion}
use Rattle.std.proofs.lemmas.List.Kept.{AllPairs-cons, Any-dedup, Contains-from_dedup, IsStrictlySortedBy-dedup}
use Rattle.std.proofs.lemmas.List.Sorted.{Contains-permutation, IsPermutation-sym, all_adjacent_more}
use Rattle.vet_base.specs.Items.{IsIn, SameItems}
use Rattle.vet_base.specs.Ranked.{IsRanked}
use Rattle.vet_base.proofs.ItemLemmas.{in_all, pairs_head, pairs_none, pairs_tail}
use Rattle.vet_base.proofs.ListLemmas.{Contains-cons_cases, Contains-here, Contains-later}
use Rattle.vet_base.proofs.SameKeys.{same_keys}

-- ---- an item of a list, by its place

pub place_in : {E : Type 0} (xs : List E) (x : E) → Contains xs x → IsIn x xs
place_in [] x held = absurd (omega (arith, held.1))
place_in (y ∷ ys) x held = elim (Contains-cons_cases y ys x held) [
  | inl here ↦ inl (sym here)
  | inr later ↦ inr (place_in ys x later)
]

pub in_place : {E : Type 0} (xs : List E) (x : E) → IsIn x xs → Contains xs x
in_place [] x none = absurd none
in_place (y ∷ ys) x (inl here) = subst (Contains (y ∷ ys)) (sym here) (Contains-here y ys)
in_place (y ∷ ys) x (inr later) = Contains-later y x ys (in_place ys x later)

module _ {E : Type 0} (cmp : E → E → Ordering) (total : IsTotalOrder cmp) where
  -- ---- neighbours in order

  far : (xs : List E) → ((k : ℕ) (d : E) → k + 1 < length xs → cmp (get_or xs k d) (get_or xs (k + 1) d) ≡ Less)
      → (i m : ℕ) (d : E) → i + m + 1 < length xs → cmp (get_or xs i d) (get_or xs (i + m + 1) d) ≡ Less
  far xs next i zero d l =
      let at : i + zero + 1 ≡ i + 1 = omega arith in
      subst (λ n. cmp (get_or xs i d) (get_or xs n d) ≡ Less) (sym at) (next i d (omega (arith, l)))
  far xs next i (suc m) d l =
      let at : i + m + 1 + 1 ≡ i + suc m + 1 = omega arith in
      subst (λ n. cmp (get_or xs i d) (get_or xs n d) ≡ Less) at
      (total.trans (get_or xs i d) (get_or xs (i + m + 1) d) (get_or xs (i + m + 1 + 1) d)
      (far xs next i m d (omega (arith, l))) (next (i + m + 1) d (omega (arith, l))))

  pub by_neighbours : (xs : List E)
      → ((k : ℕ) (d : E) → k + 1 < length xs → cmp (get_or xs k d) (get_or xs (k + 1) d) ≡ Less) → IsRanked cmp xs
  by_neighbours xs next i j d l m =
      let at : i + (j - i - 1) + 1 ≡ j = omega (arith, l) in
      subst (λ n. cmp (get_or xs i d) (get_or xs n d) ≡ Less) at (far xs next i (j - i - 1) d (omega (arith, l, m)))

  -- ---- what ties in such a list is one

  not_itself : (a b : E) → a ≡ b → cmp a b ≡ Less → ⊥
  not_itself a b same up = cc (sym up ∙ ap (λ c. cmp c b) same ∙ tied_itself total b)

  no_tie : (a b : E) → cmp a b ≡ Equal → cmp a b ≡ Less → ⊥
  no_tie a b tie up = cc (sym tie ∙ up)

  no_tie_back : (a b : E) → cmp a b ≡ Equal → cmp b a ≡ Less → ⊥
  no_tie_back a b tie up = cc (sym tie ∙ total.antisymm a b ∙ ap ordering_reverse up)

  abbrev Rises : E → E → Type 0
  Rises a b = cmp a b ≡ Less

  one_of_ties : (xs : List E) → IsRanked cmp xs → (x y : E) → IsIn x xs → IsIn y xs → cmp x y ≡ Equal → x ≡ y
  one_of_ties [] up x y none there tie = absurd none
  one_of_ties (z ∷ zs) up x y (inl here) (inl there) tie = here ∙ sym there
  one_of_ties (z ∷ zs) up x y (inl here) (inr later) tie =
      absurd (no_tie x y tie (subst (λ a. cmp a y ≡ Less) (sym here)
      (in_all (Rises z) zs (pairs_head Rises z zs up) y later)))
  one_of_ties (z ∷ zs) up x y (inr later) (inl there) tie =
      absurd (no_tie_back x y tie (subst (λ a. cmp a x ≡ Less) (sym there)
      (in_all (Rises z) zs (pairs_head Rises z zs up) x later)))
  one_of_ties (z ∷ zs) up x y (inr first) (inr second) tie =
      one_of_ties zs (pairs_tail Rises z zs up) x y first second tie

  -- ---- values that are sorted, one of those that tie

  rises : (xs : List E) → IsStrictlySortedBy cmp xs → IsRanked cmp xs
  unfolding IsStrictlySortedBy
  rises [] up = pairs_none Rises
  rises (x ∷ xs) up = AllPairs-cons Rises x xs (All-from_recursion (Rises x) xs up.0) (rises xs up.1)

  pub ranked_is : (values sorted list : List E) → IsPermutation values sorted → IsSorted cmp sorted → IsRanked cmp list
      → SameItems values list → dedup (eq_by_cmp cmp) sorted ≡ list
  ranked_is values sorted list moved up ranked same =
      same_keys cmp total (dedup (eq_by_cmp cmp) sorted) list
      (rises (dedup (eq_by_cmp cmp) sorted) (IsStrictlySortedBy-dedup total (λ x y. refl) sorted up)) ranked there back
    where
      there : (x : E) → Contains (dedup (eq_by_cmp cmp) sorted) x → Contains list x
      there x held = in_place list x (same.0 x (place_in values x
          (Contains-permutation sorted values x (IsPermutation-sym values sorted moved)
          (Contains-from_dedup (eq_by_cmp cmp) sorted x held))))

      back : (x : E) → Contains list x → Contains (dedup (eq_by_cmp cmp) sorted) x
      back x held =
          let among = Contains-permutation values sorted x moved
          (in_place values x (same.1 x (place_in list x held))) in
          let kept = Any-dedup (eq_by_cmp_equiv total) sorted x among in
          let same_one = one_of_ties list ranked x kept.1 (place_in list x held)
          (place_in list kept.1 (there kept.1 (kept.0, kept.2, kept.3))) ((Equal-is (cmp x kept.1)).0 kept.4) in
          subst (Contains (dedup (eq_by_cmp cmp) sorted)) (sym same_one) (kept.0, kept.2, kept.3)

  -- ---- what a comparison of neighbours tells

  pub below : (r : Ordering) → is_ge r ≡ false → r ≡ Less
  below Less h = refl
  below Equal h = absurd (false≢true (sym h))
  below Greater h = absurd (false≢true (sym h))

  pub at_least : (r : Ordering) → is_ge r ≡ true → r ≡ Less → ⊥
  at_least Less h e = false≢true h
  at_least Equal h e = cc e
  at_least Greater h e = cc e

  pub one_more : (xs : List E) (place : ℕ) (x y : E) → AllAdjacentBelow Rises xs place → 1 ≤ place → place < length xs
      → x ≡ get_or xs (place - 1) x → y ≡ get_or xs place y → cmp x y ≡ Less → AllAdjacentBelow Rises xs (place + 1)
  one_more xs place x y so_far some within is_x is_y up = all_adjacent_more xs Rises place (omega (arith, some)) so_far
      (λ d. subst (λ z. cmp z (get_or xs place d) ≡ Less)
      (get_or_read xs (place - 1) x (omega (arith, some, within)) is_x d)
      (subst (λ z. cmp x z ≡ Less) (get_or_read xs place y within is_y d) up))

  pub not_ranked : (xs : List E) (place : ℕ) (x y : E) → 1 ≤ place → place < length xs → x ≡ get_or xs (place - 1) x
      → y ≡ get_or xs place y → (cmp x y ≡ Less → ⊥) → IsRanked cmp xs → ⊥
  not_ranked xs place x y some within is_x is_y down ranked = down
      (subst (λ z. cmp z y ≡ Less) (sym (get_or_read xs (place - 1) x (omega (arith, some, within)) is_x x))
      (subst (λ z. cmp (get_or xs (place - 1) x) z ≡ Less) (sym (get_or_read xs place y within is_y x))
      (ranked (place - 1) place x (omega (arith, some)) within)))
