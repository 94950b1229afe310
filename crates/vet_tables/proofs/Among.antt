-- Items of which each equals one of others are among these, where only an item itself is equal to it.
use Rattle.std.proofs.Common.{Bool, List, [], ap, false, inl, inr, refl, subst}
use Rattle.std.proofs.Common.{sym, true, ◌&&◌, ◌||◌, ◌∙◌, ◌∷◌, ◌≡◌}
use Rattle.std.specs.Bool.{Decides}
use Rattle.std.specs.List.{list_all, list_any}
use Rattle.std.specs.Ordering.{eq_by_cmp}
use Rattle.std.specs.declared.cmp.Ordering.{Ordering}
use Rattle.std.proofs.lemmas.Bool.{false≢true}
use Rattle.std.proofs.lemmas.Bool.Decides.{Decides-and}
use Rattle.vet_base.specs.Items.{IsIn, SameItems}

module _ {X : Type 0} (eq : X → X → Bool) (only : (a b : X) → Decides (eq a b) (a ≡ b)) where
  any_is_in : (x : X) (ys : List X) → list_any (eq x) ys ≡ true → IsIn x ys
  any_is_in x [] h = absurd (false≢true h)
  any_is_in x (y ∷ ys) h = by (eq x y) refl (any_is_in x ys)
    where
      by : (b : Bool) → eq x y ≡ b → (list_any (eq x) ys ≡ true → IsIn x ys) → IsIn x (y ∷ ys)
      by true e further = inl ((only x y).0 e)
      by false e further = inr (further (ap (λ c. c || list_any (eq x) ys) (sym e) ∙ h))

  in_is_any : (x : X) (ys : List X) → IsIn x ys → list_any (eq x) ys ≡ true
  in_is_any x [] i = absurd i
  in_is_any x (y ∷ ys) (inl same) = ap (λ c. c || list_any (eq x) ys) ((only x y).1 same)
  in_is_any x (y ∷ ys) (inr rest) = by (eq x y) (in_is_any x ys rest)
    where
      by : (b : Bool) → list_any (eq x) ys ≡ true → (b || list_any (eq x) ys) ≡ true
      by true further = refl
      by false further = further

  all_are_in : (xs ys : List X) → list_all (λ x. list_any (eq x) ys) xs ≡ true → (x : X) → IsIn x xs → IsIn x ys
  all_are_in [] ys h x i = absurd i
  all_are_in (a ∷ xs) ys h x i = by (list_any (eq a) ys) refl i (λ e rest. all_are_in xs ys e x rest)
    where
      by : (b : Bool) → list_any (eq a) ys ≡ b → IsIn x (a ∷ xs)
          → (list_all (λ v. list_any (eq v) ys) xs ≡ true → IsIn x xs → IsIn x ys) → IsIn x ys
      by true e (inl same) further = subst (λ v. IsIn v ys) (sym same) (any_is_in a ys e)
      by true e (inr rest) further =
          further (ap (λ c. c && list_all (λ v. list_any (eq v) ys) xs) (sym e) ∙ h) rest
      by false e k further = absurd (false≢true (ap (λ c. c && list_all (λ v. list_any (eq v) ys) xs) (sym e) ∙ h))

  in_are_all : (xs ys : List X) → ((x : X) → IsIn x xs → IsIn x ys) → list_all (λ x. list_any (eq x) ys) xs ≡ true
  in_are_all [] ys h = refl
  in_are_all (a ∷ xs) ys h =
      ap (λ c. c && list_all (λ v. list_any (eq v) ys) xs) (in_is_any a ys (h a (inl refl)))
      ∙ in_are_all xs ys (λ x i. h x (inr i))

  pub among_decides : (xs ys : List X)
      → Decides (list_all (λ x. list_any (eq x) ys) xs) ((x : X) → IsIn x xs → IsIn x ys)
  among_decides xs ys = (all_are_in xs ys, in_are_all xs ys)

  pub same_decides : (xs ys : List X) (r : Bool)
      → r ≡ (list_all (λ x. list_any (eq x) ys) xs && list_all (λ x. list_any (eq x) xs) ys)
      → Decides r (SameItems xs ys)
  same_decides xs ys r is = subst (λ b. Decides b (SameItems xs ys)) (sym is)
      (Decides-and _ _ (among_decides xs ys) (among_decides ys xs))

-- where equal items are those that tie in an order
pub same_by_order : {X : Type 0} (eq : X → X → Bool) (cmp : X → X → Ordering)
    → ((a b : X) → Decides (eq a b) (a ≡ b)) → ((a b : X) → eq a b ≡ eq_by_cmp cmp a b) → (xs ys : List X) (r : Bool)
    → r ≡ (list_all (λ x. list_any (eq_by_cmp cmp x) ys) xs && list_all (λ x. list_any (eq_by_cmp cmp x) xs) ys)
    → Decides r (SameItems xs ys)
same_by_order {X} eq cmp only ties xs ys r is = same_decides (eq_by_cmp cmp) only_itself xs ys r is
  where
    only_itself : (a b : X) → Decides (eq_by_cmp cmp a b) (a ≡ b)
    only_itself a b = subst (λ r. Decides r (a ≡ b)) (ties a b) (only a b)

-- ---- the items that are among others, and the rest

-- where two tests say the same of each pair
pub any_alike : {X : Type 0} (p q : X → X → Bool) → ((a b : X) → q a b ≡ p a b) → (x : X) (ys : List X)
    → list_any (p x) ys ≡ list_any (q x) ys
any_alike p q same x [] = refl
any_alike p q same x (y ∷ ys) = rw (same x y, any_alike p q same x ys) refl

module _ {X : Type 0} (eq : X → X → Bool) (only : (a b : X) → Decides (eq a b) (a ≡ b)) where
  pub is_among : (x : X) (ys : List X) → list_any (eq x) ys ≡ true → IsIn x ys
  is_among x ys h = any_is_in eq only x ys h

  pub among_is : (x : X) (ys : List X) → IsIn x ys → list_any (eq x) ys ≡ true
  among_is x ys i = in_is_any eq only x ys i
