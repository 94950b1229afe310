-- What items in the order of their keys give, one after another, once one is put in or taken out.
use Rattle.std.proofs.Common.{◌≡◌, List, [], ◌∷◌, ◌++◌, Option, Some, None, cond, get_or, not}
use Rattle.std.proofs.Common.{Ordering, Less, Equal, Greater, refl, sym, ap, ◌∙◌}
use Rattle.std.specs.Cmp.{IsTotalOrder}
use Rattle.std.specs.List.{All, filter, flat_map}
use Rattle.std.specs.Ordering.{is_eq, is_gt, is_lt, ordering_reverse}
use Rattle.std.proofs.lemmas.Grind.{flat_map-append}
use Rattle.std.proofs.lemmas.List.{append_assoc}
use Rattle.vet_base.specs.Keyed.{IsByKey, item_of, is_before, is_behind, is_of, with_item, without_item}
use Rattle.vet_base.proofs.KeyedLemmas.{above, greater_behind, rest_by_key}
use Rattle.vet_base.proofs.ListLemmas.{filter_drops, filter_keeps, find_absent}

-- what an item gives, if there is one
abbrev pub given : {E Y : Type 0} → (E → List Y) → Option E → List Y
given f None = []
given f (Some e) = f e

module _ {K E Y : Type 0} (cmp : K → K → Ordering) (total : IsTotalOrder cmp)
    (only : (a b : K) → cmp a b ≡ Equal → a ≡ b) (key : E → K) (f : E → List Y) where
  abbrev front : K → List E → List E
  front k items = filter (is_before cmp key k) items

  abbrev back : K → List E → List E
  back k items = filter (is_behind cmp key k) items

  -- ---- items that are all behind a key

  module _ (k : K) (xs : List E) (behind : All (λ y. cmp (key y) k ≡ Greater) xs) where
    none_in_front : front k xs ≡ []
    none_in_front = filter_drops (is_before cmp key k) xs (λ i d l. ap is_lt (behind i d l))

    all_in_back : back k xs ≡ xs
    all_in_back = filter_keeps (is_behind cmp key k) xs (λ i d l. ap is_gt (behind i d l))

    none_found : item_of cmp key xs k ≡ None
    none_found = find_absent (is_of cmp key k) xs (λ i d l. ap is_eq (behind i d l))

    none_without : without_item cmp key xs k ≡ xs
    none_without = filter_keeps (λ e. not (is_of cmp key k e)) xs (λ i d l. ap (λ r. not (is_eq r)) (behind i d l))

  behind_equal : (k : K) (x : E) (xs : List E) → IsByKey cmp key (x ∷ xs) → cmp (key x) k ≡ Equal
      → All (λ y. cmp (key y) k ≡ Greater) xs
  behind_equal k x xs up h i d l =
      above cmp total only key k (key (get_or xs i d))
      (ap (λ n. cmp n (key (get_or xs i d))) (sym (only (key x) k h)) ∙ greater_behind cmp total only key x xs up i d l)

  behind_greater : (k : K) (x : E) (xs : List E) → IsByKey cmp key (x ∷ xs) → cmp (key x) k ≡ Greater
      → All (λ y. cmp (key y) k ≡ Greater) xs
  behind_greater k x xs up h i d l =
      above cmp total only key k (key (get_or xs i d))
      (total.trans k (key x) (key (get_or xs i d)) (total.antisymm k (key x) ∙ ap ordering_reverse h)
      (greater_behind cmp total only key x xs up i d l))

  -- ---- the items of lesser keys, the one of the key, and those of greater keys

  pub given_in_parts : (items : List E) (k : K) → IsByKey cmp key items
      → flat_map f items
      ≡ flat_map f (front k items) ++ (given f (item_of cmp key items k) ++ flat_map f (back k items))
  given_in_parts [] k up = refl
  given_in_parts (x ∷ xs) k up =
      at (cmp (key x) k) refl (given_in_parts xs k (rest_by_key cmp total only key x xs up))
    where
      parts : Ordering → List Y
      parts r =
          flat_map f (cond (is_lt r) (x ∷ front k xs) (front k xs))
          ++ (given f (let o : Option E = cond (is_eq r) (Some x) (item_of cmp key xs k) in o)
          ++ flat_map f (cond (is_gt r) (x ∷ back k xs) (back k xs)))

      at : (r : Ordering) → cmp (key x) k ≡ r
          → flat_map f xs ≡ flat_map f (front k xs) ++ (given f (item_of cmp key xs k) ++ flat_map f (back k xs))
          → f x ++ flat_map f xs ≡ parts r
      at Less h rest =
          ap (λ ys. f x ++ ys) rest
          ∙ sym (append_assoc (f x) (flat_map f (front k xs))
          (given f (item_of cmp key xs k) ++ flat_map f (back k xs)))
      at Equal h rest =
          let behind = behind_equal k x xs up h in
          sym (λ i. flat_map f (none_in_front k xs behind i) ++ (f x ++ flat_map f (all_in_back k xs behind i)))
      at Greater h rest =
          let behind = behind_greater k x xs up h in
          sym (λ i. flat_map f (none_in_front k xs behind i)
          ++ (given f (none_found k xs behind i) ++ (f x ++ flat_map f (all_in_back k xs behind i))))

  pub given_without : (items : List E) (k : K) → IsByKey cmp key items
      → flat_map f (without_item cmp key items k) ≡ flat_map f (front k items) ++ flat_map f (back k items)
  given_without [] k up = refl
  given_without (x ∷ xs) k up =
      at (cmp (key x) k) refl (given_without xs k (rest_by_key cmp total only key x xs up))
    where
      at : (r : Ordering) → cmp (key x) k ≡ r
          → flat_map f (without_item cmp key xs k) ≡ flat_map f (front k xs) ++ flat_map f (back k xs)
          → flat_map f (cond (not (is_eq r)) (x ∷ without_item cmp key xs k) (without_item cmp key xs k))
          ≡ flat_map f (cond (is_lt r) (x ∷ front k xs) (front k xs))
          ++ flat_map f (cond (is_gt r) (x ∷ back k xs) (back k xs))
      at Less h rest =
          ap (λ ys. f x ++ ys) rest ∙ sym (append_assoc (f x) (flat_map f (front k xs)) (flat_map f (back k xs)))
      at Equal h rest = rest
      at Greater h rest =
          let behind = behind_greater k x xs up h in
          (λ i. f x ++ flat_map f (none_without k xs behind i))
          ∙ sym (λ i. flat_map f (none_in_front k xs behind i) ++ (f x ++ flat_map f (all_in_back k xs behind i)))

  -- ---- one put in, and one taken out

  -- an item that gives what the one of its key gave leaves what all give
  pub given-with_item : (items : List E) (e : E) → IsByKey cmp key items
      → given f (item_of cmp key items (key e)) ≡ f e → flat_map f items ≡ flat_map f (with_item cmp key items e)
  given-with_item items e up same =
      given_in_parts items (key e) up
      ∙ ap (λ ys. flat_map f (front (key e) items) ++ (ys ++ flat_map f (back (key e) items))) same
      ∙ sym (flat_map-append f (front (key e) items) (e ∷ back (key e) items))

  -- and so does to take out one that gives nothing
  pub given-without_item : (items : List E) (k : K) → IsByKey cmp key items
      → given f (item_of cmp key items k) ≡ [] → flat_map f items ≡ flat_map f (without_item cmp key items k)
  given-without_item items k up nothing =
      given_in_parts items k up
      ∙ ap (λ ys. flat_map f (front k items) ++ (ys ++ flat_map f (back k items))) nothing
      ∙ sym (given_without items k up)
