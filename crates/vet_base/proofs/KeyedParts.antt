-- Items in the order of their keys: what they are without one, and what numbers of each sum up to.
use Rattle.std.proofs.Common.{◌≡◌, ℕ, ◌+◌, ◌-◌, ◌<◌, Bool, true, false, List, [], ◌∷◌, Option, Some, None, cond}
use Rattle.std.proofs.Common.{is_some, get_or, length, slice_get, Err, not, inl, inr, refl, sym, ap, subst, ◌∙◌, arith}
use Rattle.std.specs.Cmp.{IsTotalOrder, tied_itself}
use Rattle.std.specs.List.{All, filter, sum_by}
use Rattle.std.specs.Option.{unwrap_or}
use Rattle.std.specs.Ordering.{is_eq, is_gt, is_lt}
use Rattle.std.specs.declared.cmp.Ordering.{Ordering}
use Rattle.std.specs.declared.cmp.Ordering.TheVariants.{Less, Equal, Greater}
use Rattle.std.proofs.lemmas.Bool.{cases_lt, false≢true}
use Rattle.std.proofs.lemmas.Option.{get_or_from_slice_get, slice_get_within}
use Rattle.std.proofs.lemmas.List.Elements.{All-append, All-cons, All-filter, All-head, All-tail}
use Rattle.std.proofs.lemmas.List.Filters.{sum_by-filter_both}
use Rattle.std.proofs.lemmas.List.Kept.{AllPairs-filter}
use Rattle.std.proofs.lemmas.List.Sums.{sum_by-append, sum_by-cons}
use Rattle.vet_base.specs.Keyed.{IsByKey, IsPlace, item_of, is_before, is_behind, is_of, with_item, without_item}
use Rattle.vet_base.proofs.KeyedLemmas.{IsByKey-with_item, above, greater_behind, item_of-after, rest_by_key}
use Rattle.vet_base.proofs.KeyedLemmas.{same_items}
use Rattle.vet_base.proofs.Comparisons.{equal, is_false}
use Rattle.vet_base.proofs.ListLemmas.{filter_drops, find_dropped, find_kept}

-- what an item adds to a sum, if there is one
abbrev pub held_sum : {E : Type 0} → (E → ℕ) → Option E → ℕ
held_sum f None = 0
held_sum f (Some e) = f e

module _ {K E : Type 0} (cmp : K → K → Ordering) (key : E → K) where
  -- what holds of each item and of one put in holds of each after
  pub All-with_item : (P : E → Type 0) (items : List E) (e : E) → All P items → P e → All P (with_item cmp key items e)
  All-with_item P items e each one =
      let before = is_before cmp key (key e) in
      let behind = is_behind cmp key (key e) in
      All-append P (filter before items) (e ∷ filter behind items) (All-filter before P items each)
      (All-cons P e (filter behind items) one (All-filter behind P items each))

  pub All-without_item : (P : E → Type 0) (items : List E) (k : K) → All P items → All P (without_item cmp key items k)
  All-without_item P items k each = All-filter (λ e. not (is_of cmp key k e)) P items each

  pub IsByKey-without_item : (items : List E) (k : K) → IsByKey cmp key items
      → IsByKey cmp key (without_item cmp key items k)
  IsByKey-without_item items k up =
      AllPairs-filter (λ a b. cmp (key a) (key b) ≡ Less) (λ e. not (is_of cmp key k e)) items up

  -- what holds of each item holds of the one that is found, which is of the key
  pub item_found : (P : E → Type 0) (items : List E) (k : K) (e : E) → All P items → item_of cmp key items k ≡ Some e
      → (is_of cmp key k e ≡ true) × P e
  item_found P [] k e each found = absurd (false≢true (ap is_some found))
  item_found P (x ∷ xs) k e each found =
      step (is_of cmp key k x) refl found (item_found P xs k e (All-tail P x xs each))
    where
      step : (b : Bool) → is_of cmp key k x ≡ b → (let o : Option E = cond b (Some x) (item_of cmp key xs k) in o)
          ≡ Some e
          → (item_of cmp key xs k ≡ Some e → (is_of cmp key k e ≡ true) × P e) → (is_of cmp key k e ≡ true) × P e
      step true h at more =
          (let same : x ≡ e = ap (λ o. unwrap_or o x) at in
          (ap (is_of cmp key k) (sym same) ∙ h, subst P same (All-head P x xs each)))
      step false h later more = more later

  -- where there is none of a key, they are the same without it
  pub without_none : (items : List E) (k : K) → item_of cmp key items k ≡ None → without_item cmp key items k ≡ items
  without_none [] k none = refl
  without_none (x ∷ xs) k none = step (is_of cmp key k x) none (without_none xs k)
    where
      step : (b : Bool) → (let o : Option E = cond b (Some x) (item_of cmp key xs k) in o) ≡ None
          → (item_of cmp key xs k ≡ None → without_item cmp key xs k ≡ xs)
          → cond (not b) (x ∷ without_item cmp key xs k) (without_item cmp key xs k) ≡ x ∷ xs
      step true found more = absurd (false≢true (sym (ap is_some found)))
      step false none more = ap (λ (rest : List E). x ∷ rest) (more none)

  -- the items of lesser and of greater keys are those without the one of the key
  sides : (f : E → ℕ) (items : List E) (k : K)
      → sum_by f (filter (is_before cmp key k) items) + sum_by f (filter (is_behind cmp key k) items)
      ≡ sum_by f (without_item cmp key items k)
  sides f [] k = refl
  sides f (x ∷ xs) k = step (cmp (key x) k) (sides f xs k)
    where
      front : List E
      front = filter (is_before cmp key k) xs

      back : List E
      back = filter (is_behind cmp key k) xs

      rest : List E
      rest = without_item cmp key xs k

      step : (r : Ordering) → sum_by f front + sum_by f back ≡ sum_by f rest
          → sum_by f (cond (is_lt r) (x ∷ front) front) + sum_by f (cond (is_gt r) (x ∷ back) back)
          ≡ sum_by f (cond (not (is_eq r)) (x ∷ rest) rest)
      step Less more = omega (arith, more, sum_by-cons f x front, sum_by-cons f x rest)
      step Equal more = more
      step Greater more = omega (arith, more, sum_by-cons f x back, sum_by-cons f x rest)

-- ---- by keys in a total order, in which only equals tie

module _ {K E : Type 0} (cmp : K → K → Ordering) (total : IsTotalOrder cmp)
    (only : (a b : K) → cmp a b ≡ Equal → a ≡ b) (key : E → K) where
  -- none is found at the key of the one that is gone
  pub item_of-gone : (items : List E) (k : K) → item_of cmp key (without_item cmp key items k) k ≡ None
  item_of-gone items k = find_dropped (is_of cmp key k) (λ e. not (is_of cmp key k e)) (λ e h. ap not h) items

  -- and what is found at another stays
  pub item_of-stays : (items : List E) (k other : K) → (other ≡ k → ⊥)
      → item_of cmp key (without_item cmp key items k) other ≡ item_of cmp key items other
  item_of-stays items k other differs =
      find_kept (is_of cmp key other) (λ e. not (is_of cmp key k e))
      (λ e h. ap not (is_false (is_of cmp key k e)
      (λ t. differs (sym (only (key e) other (equal (cmp (key e) other) h))
      ∙ only (key e) k (equal (cmp (key e) k) t))))) items

  -- to set the item that is held changes nothing
  pub with_held : (items : List E) (e : E) → IsByKey cmp key items → item_of cmp key items (key e) ≡ Some e
      → with_item cmp key items e ≡ items
  with_held items e up held =
      same_items cmp total only key (with_item cmp key items e) items (IsByKey-with_item cmp total only key items e up)
      up
      (λ k. item_of-after cmp total only key items e k (is_of cmp key k e) refl ∙ at k (is_of cmp key k e) refl)
    where
      at : (k : K) (b : Bool) → is_of cmp key k e ≡ b
          → (let o : Option E = cond b (Some e) (item_of cmp key items k) in o) ≡ item_of cmp key items k
      at k true h = sym held ∙ ap (item_of cmp key items) (only (key e) k (equal (cmp (key e) k) h))
      at k false h = refl

  -- an item put in after the one of its key was taken out stands in its place
  pub with_over : (items : List E) (e : E) → IsByKey cmp key items
      → with_item cmp key (without_item cmp key items (key e)) e ≡ with_item cmp key items e
  with_over items e up =
      let rest = without_item cmp key items (key e) in
      same_items cmp total only key (with_item cmp key rest e) (with_item cmp key items e)
      (IsByKey-with_item cmp total only key rest e (IsByKey-without_item cmp key items (key e) up))
      (IsByKey-with_item cmp total only key items e up)
      (λ k. item_of-after cmp total only key rest e k (is_of cmp key k e) refl ∙ at k (is_of cmp key k e) refl
      ∙ sym (item_of-after cmp total only key items e k (is_of cmp key k e) refl))
    where
      at : (k : K) (b : Bool) → is_of cmp key k e ≡ b
          → (let o : Option E = cond b (Some e) (item_of cmp key (without_item cmp key items (key e)) k) in o)
          ≡ cond b (Some e) (item_of cmp key items k)
      at k true h = refl
      at k false h = item_of-stays items (key e) k
          (λ same. false≢true (sym h ∙ ap (λ n. is_eq (cmp (key e) n)) same ∙ ap is_eq (tied_itself total (key e))))

  -- the item that was held, set again, leads back
  pub with_back : (items : List E) (e held : E) → IsByKey cmp key items → item_of cmp key items (key e) ≡ Some held
      → key held ≡ key e
      → with_item cmp key (with_item cmp key items e) held ≡ items
  with_back items e held up found same =
      let after = with_item cmp key items e in
      same_items cmp total only key (with_item cmp key after held) items
      (IsByKey-with_item cmp total only key after held (IsByKey-with_item cmp total only key items e up)) up
      (λ k. item_of-after cmp total only key after held k (is_of cmp key k held) refl
      ∙ at k (is_of cmp key k held) refl)
    where
      at : (k : K) (b : Bool) → is_of cmp key k held ≡ b
          → (let o : Option E = cond b (Some held) (item_of cmp key (with_item cmp key items e) k) in o)
          ≡ item_of cmp key items k
      at k true h = sym found ∙ ap (item_of cmp key items) (sym same ∙ only (key held) k (equal (cmp (key held) k) h))
      at k false h =
          item_of-after cmp total only key items e k (is_of cmp key k e) refl
          ∙ ap (λ b. cond b (Some e) (item_of cmp key items k)) (ap (λ n. is_eq (cmp n k)) (sym same) ∙ h)

  -- ---- sums

  only_one : (f : E → ℕ) (items : List E) (k : K) → IsByKey cmp key items → sum_by f (filter (is_of cmp key k) items)
      ≡ held_sum f (item_of cmp key items k)
  only_one f [] k up = refl
  only_one f (x ∷ xs) k up = step (is_of cmp key k x) refl (only_one f xs k (rest_by_key cmp total only key x xs up))
    where
      own : List E
      own = filter (is_of cmp key k) xs

      step : (b : Bool) → is_of cmp key k x ≡ b → sum_by f own ≡ held_sum f (item_of cmp key xs k)
          → sum_by f (cond b (x ∷ own) own)
          ≡ held_sum f (let o : Option E = cond b (Some x) (item_of cmp key xs k) in o)
      step true h more =
          let at = only (key x) k (equal (cmp (key x) k) h) in
          let none : own ≡ [] = filter_drops (is_of cmp key k) xs
          (λ i d l. ap is_eq (above cmp total only key k (key (get_or xs i d))
          (ap (λ n. cmp n (key (get_or xs i d))) (sym at) ∙ greater_behind cmp total only key x xs up i d l))) in
          omega (arith, sum_by-cons f x own, ap (sum_by f) none)
      step false h more = more

  -- the sum without an item lacks its number
  pub sum_without : (f : E → ℕ) (items : List E) (k : K) → IsByKey cmp key items
      → sum_by f (without_item cmp key items k) + held_sum f (item_of cmp key items k) ≡ sum_by f items
  sum_without f items k up =
      omega (
        arith,
        only_one f items k up,
        sum_by-filter_both (is_of cmp key k) (λ e. not (is_of cmp key k e))
            (λ e. refl) f items,
      )

  -- and with another in its stead has that one's
  pub sum_with : (f : E → ℕ) (items : List E) (e : E) → IsByKey cmp key items
      → sum_by f (with_item cmp key items e) + held_sum f (item_of cmp key items (key e)) ≡ sum_by f items + f e
  sum_with f items e up =
      let front = filter (is_before cmp key (key e)) items in
      let back = filter (is_behind cmp key (key e)) items in
      omega (
        arith,
        sum_by-append f front (e ∷ back),
        sum_by-cons f e back,
        sides cmp key f items (key e),
        sum_without
            f items (key e) up,
      )

-- ---- a key behind all

pub less : (r : Ordering) → is_lt r ≡ true → r ≡ Less
less Less h = refl
less Equal h = cc h
less Greater h = cc h

module _ {K E : Type 0} (cmp : K → K → Ordering) (total : IsTotalOrder cmp) (key : E → K) where
  -- a key that is greater than that of the last item belongs behind all
  pub behind_last : (items : List E) (k : K) (last : E) → IsByKey cmp key items → slice_get items (length items - 1)
      ≡ Some last → cmp (key last) k ≡ Less
      → IsPlace cmp key items k (Err (length items))
  behind_last items k last up at less =
      (omega arith, ((λ j d l m. in_front j d m), (λ j d l m. absurd (omega (arith, l, m)))))
    where
      end : ℕ
      end = length items - 1

      is_last : (d : E) → get_or items end d ≡ last
      is_last d = get_or_from_slice_get items end last d at

      in_front : (j : ℕ) (d : E) → j < length items → is_before cmp key k (get_or items j d) ≡ true
      in_front j d m = elim (cases_lt j end) [
        | inl h ↦ ap is_lt (total.trans (key (get_or items j d)) (key last) k
            (subst (λ x. cmp (key (get_or items j d)) (key x) ≡ Less) (is_last d)
            (up j end d h (slice_get_within items end last at))) less)
        | inr h ↦ (let same : j ≡ end = omega (arith, m, h) in
            ap is_lt (ap (λ x. cmp (key x) k) (ap (λ n. get_or items n d) same ∙ is_last d) ∙ less))
      ]
