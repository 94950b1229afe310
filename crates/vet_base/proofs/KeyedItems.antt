-- Items that are set one after another, in whatever order, are those in the order of their keys.
use Rattle.std.proofs.Common.{◌≡◌, ◌⊎◌, List, [], ◌∷◌, ◌++◌, refl, sym, ap, ◌∙◌, inl, inr, Ordering, Less}
use Rattle.std.proofs.Common.{Equal, Greater}
use Rattle.std.specs.Cmp.{IsTotalOrder, tied_itself}
use Rattle.std.specs.List.{filter}
use Rattle.std.specs.Ordering.{is_gt, is_lt, ordering_reverse}
use Rattle.vet_base.specs.Items.{IsIn, SameItems}
use Rattle.vet_base.specs.Keyed.{IsByKey, all_set, is_before, is_behind, with_item}
use Rattle.vet_base.proofs.ItemLemmas.{filter_in, in_all, in_append, in_back, in_filter, in_front}
use Rattle.vet_base.proofs.ItemLemmas.{pairs_head, pairs_none}
use Rattle.vet_base.proofs.ItemLemmas.{pairs_tail}
use Rattle.vet_base.proofs.KeyedLemmas.{IsByKey-all_set}

module _ {K E : Type 0} (cmp : K → K → Ordering) (total : IsTotalOrder cmp)
    (only : (a b : K) → cmp a b ≡ Equal → a ≡ b) (key : E → K) where
  abbrev Rises : E → E → Type 0
  Rises a b = cmp (key a) (key b) ≡ Less

  -- ---- lists in the order of their keys with the same items are the same

  not_itself : (a b : K) → a ≡ b → cmp a b ≡ Less → ⊥
  not_itself a b same up = cc (sym up ∙ ap (λ c. cmp c b) same ∙ tied_itself total b)

  not_both : (a b : K) → cmp a b ≡ Less → cmp b a ≡ Less → ⊥
  not_both a b first second = cc (sym first ∙ total.antisymm a b ∙ ap ordering_reverse second)

  later : (x : E) (xs : List E) (y : E) → IsByKey cmp key (x ∷ xs) → IsIn y xs → Rises x y
  later x xs y up among = in_all (Rises x) xs (pairs_head Rises x xs up) y among

  same_heads : (x : E) (xs : List E) (y : E) (ys : List E) → IsByKey cmp key (x ∷ xs) → IsByKey cmp key (y ∷ ys)
      → IsIn x (y ∷ ys) → IsIn y (x ∷ xs) → x ≡ y
  same_heads x xs y ys up_x up_y (inl same) among = same
  same_heads x xs y ys up_x up_y (inr x_later) (inl same) = sym same
  same_heads x xs y ys up_x up_y (inr x_later) (inr y_later) =
      absurd (not_both (key x) (key y) (later x xs y up_x y_later) (later y ys x up_y x_later))

  in_tail : (x : E) (xs : List E) (y : E) (ys : List E) → IsByKey cmp key (x ∷ xs) → x ≡ y → (z : E) → IsIn z xs
      → IsIn z (y ∷ ys) → IsIn z ys
  in_tail x xs y ys up same z held (inl head) =
      absurd (not_itself (key x) (key z) (ap key (same ∙ sym head)) (later x xs z up held))
  in_tail x xs y ys up same z held (inr tail) = tail

  pub same_lists : (xs ys : List E) → IsByKey cmp key xs → IsByKey cmp key ys → SameItems xs ys → xs ≡ ys
  same_lists [] [] up_x up_y same = refl
  same_lists [] (y ∷ ys) up_x up_y same = absurd (same.1 y (inl refl))
  same_lists (x ∷ xs) [] up_x up_y same = absurd (same.0 x (inl refl))
  same_lists (x ∷ xs) (y ∷ ys) up_x up_y same =
      let head = same_heads x xs y ys up_x up_y (same.0 x (inl refl)) (same.1 y (inl refl)) in
      let rest = same_lists xs ys (pairs_tail Rises x xs up_x) (pairs_tail Rises y ys up_y) (
        λ z held. in_tail x xs y ys up_x head z held (same.0 z (inr held)),
        λ z held. in_tail y ys x xs up_y (sym head) z held (same.1 z (inr held)),
      ) in
      λ i. head i ∷ rest i

  -- items of such a list that have one key are one item
  pub of_one_key : (xs : List E) → IsByKey cmp key xs → (x y : E) → IsIn x xs → IsIn y xs → key x ≡ key y → x ≡ y
  of_one_key [] up x y in_x in_y same = absurd in_x
  of_one_key (z ∷ zs) up x y (inl first) (inl second) same = first ∙ sym second
  of_one_key (z ∷ zs) up x y (inl first) (inr second) same =
      absurd (not_itself (key z) (key y) (ap key (sym first) ∙ same) (later z zs y up second))
  of_one_key (z ∷ zs) up x y (inr first) (inl second) same =
      absurd (not_itself (key z) (key x) (ap key (sym second) ∙ sym same) (later z zs x up first))
  of_one_key (z ∷ zs) up x y (inr first) (inr second) same =
      of_one_key zs (pairs_tail Rises z zs up) x y first second same

  -- ---- items set one after another

  pub of_with_item : (held : List E) (e x : E) → IsIn x (with_item cmp key held e) → (x ≡ e) ⊎ IsIn x held
  of_with_item held e x among =
      elim (in_append (filter (is_before cmp key (key e)) held) (e ∷ filter (is_behind cmp key (key e)) held) x among) [
        | inl front ↦ inr (in_filter (is_before cmp key (key e)) held x front).0
        | inr (inl here) ↦ inl here
        | inr (inr back) ↦ inr (in_filter (is_behind cmp key (key e)) held x back).0
      ]

  -- what is set is one of the items
  pub of_all_set : (held es : List E) (x : E) → IsIn x (all_set cmp key held es) → IsIn x held ⊎ IsIn x es
  of_all_set held [] x among = inl among
  of_all_set held (e ∷ rest) x among = elim (of_all_set (with_item cmp key held e) rest x among) [
    | inl first ↦ elim (of_with_item held e x first) [ inl here ↦ inr (inl here) | inr before ↦ inl before ]
    | inr after ↦ inr (inr after)
  ]

  -- of items that have one key only where they are one, each is there in the end
  module _ (P : E → Type 0) (one : (a b : E) → P a → P b → key a ≡ key b → a ≡ b) where
    to_with_item : (held : List E) (e x : E) → P e → P x → (x ≡ e) ⊎ IsIn x held → IsIn x (with_item cmp key held e)
    to_with_item held e x of_e of_x (inl here) = in_back (filter (is_before cmp key (key e)) held)
        (e ∷ filter (is_behind cmp key (key e)) held) x (inl here)
    to_with_item held e x of_e of_x (inr among) = stands (cmp (key x) (key e)) refl
      where
        front : List E
        front = filter (is_before cmp key (key e)) held

        back : List E
        back = filter (is_behind cmp key (key e)) held

        stands : (r : Ordering) → cmp (key x) (key e) ≡ r → IsIn x (front ++ (e ∷ back))
        stands Less h =
            in_front front (e ∷ back) x (filter_in (is_before cmp key (key e)) held x among (ap is_lt h))
        stands Equal h = in_back front (e ∷ back) x (inl (one x e of_x of_e (only (key x) (key e) h)))
        stands Greater h =
            in_back front (e ∷ back) x (inr (filter_in (is_behind cmp key (key e)) held x among (ap is_gt h)))

    to_all_set : (held es : List E) → ((x : E) → IsIn x held → P x) → ((x : E) → IsIn x es → P x) → (x : E)
        → IsIn x held ⊎ IsIn x es → IsIn x (all_set cmp key held es)
    to_all_set held [] of_held of_es x (inl among) = among
    to_all_set held [] of_held of_es x (inr none) = absurd none
    to_all_set held (e ∷ rest) of_held of_es x among =
        to_all_set (with_item cmp key held e) rest of_first (λ y i. of_es y (inr i)) x (first among)
      where
        of_first : (y : E) → IsIn y (with_item cmp key held e) → P y
        of_first y i = elim (of_with_item held e y i) [
          | inl here ↦ of_es y (inl here)
          | inr before ↦ of_held y before
        ]

        first : IsIn x held ⊎ IsIn x (e ∷ rest) → IsIn x (with_item cmp key held e) ⊎ IsIn x rest
        first (inl before) = inl (to_with_item held e x (of_es e (inl refl)) (of_held x before) (inr before))
        first (inr (inl here)) = inl (to_with_item held e x (of_es e (inl refl)) (of_es x (inl here)) (inl here))
        first (inr (inr after)) = inr after

  -- where they are the items of a list in the order of its keys, they are that list
  pub all_set_is : (xs es : List E) → IsByKey cmp key xs → SameItems es xs → all_set cmp key [] es ≡ xs
  all_set_is xs es up same =
      same_lists (all_set cmp key [] es) xs (IsByKey-all_set cmp total only key [] es (pairs_none Rises)) up (
        λ x among. elim (of_all_set [] es x among) [ inl none ↦ absurd none | inr there ↦ same.0 x there ],
        λ x among. to_all_set (λ y. IsIn y xs) (of_one_key xs up) [] es (λ y none. absurd none) same.0 x
            (inr (same.1 x among)),
      )
