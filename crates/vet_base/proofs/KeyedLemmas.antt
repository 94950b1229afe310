-- Items in the order of their keys: what a search among them tells, and what an item put in leaves.
use Rattle.std.proofs.Common.{◌≡◌, ℕ, suc, ◌+◌, ◌<◌, ◌≤◌, Bool, true, false, List, [], ◌∷◌, ◌++◌, Option, Some, None}
use Rattle.std.proofs.Common.{cond, ◌&&◌, is_some, length, get_or, not, set, Result, Ok, Err, is_ok, refl, sym, ap}
use Rattle.std.proofs.Common.{subst, ◌∙◌, arith, inl, inr}
use Rattle.std.specs.List.{All, filter, find, insert, remove}
use Rattle.std.specs.List.Sorted.{IsBinarySearchResult, IsPartitionPoint, IsSearchInRange, IsSortedBy, IsStableBy, ties}
use Rattle.std.specs.Ordering.{is_eq, is_gt, is_lt, ordering_reverse}
use Rattle.std.specs.Cmp.{IsTotalOrder, tied_itself}
use Rattle.std.specs.declared.cmp.Ordering.{Ordering}
use Rattle.std.specs.declared.cmp.Ordering.TheVariants.{Less, Equal, Greater}
use Rattle.std.specs.Option.{option_or}
use Rattle.std.proofs.lemmas.Bool.{cases_lt, false≢true}
use Rattle.std.proofs.lemmas.List.Folds.{find-append}
use Rattle.std.proofs.lemmas.List.{get_or_default, get_or-set_same, length-set}
use Rattle.std.proofs.lemmas.List.Edits.{get_or-remove_above, get_or-remove_below, length-remove}
use Rattle.std.proofs.lemmas.List.Elements.{All-cons, All-head, filter_passes}
use Rattle.std.proofs.lemmas.List.Kept.{AllPairs-cons, AllPairs-filter}
use Rattle.std.proofs.lemmas.List.Sorted.{searchable_from_sorted}
use Rattle.vet_base.specs.Keyed.{IsByKey, IsPlace, all_set, item_of, is_before, is_behind, is_of, with_item}
use Rattle.vet_base.specs.Keyed.{without_item}
use Rattle.vet_base.proofs.Comparisons.{not_behind, not_before, neither_lt, neither_gt, lesser, greater, is_false}
use Rattle.vet_base.proofs.Comparisons.{equal}
use Rattle.vet_base.proofs.ListLemmas.{kept_front, kept_back, filter_but_one, find_absent, find_at, any_found}
use Rattle.vet_base.proofs.ListLemmas.{find_kept, find_dropped, or_none, set_is, pairs_appended}

-- ---- items by keys in a total order, in which only equals tie

module _ {K E : Type 0} (cmp : K → K → Ordering) (total : IsTotalOrder cmp)
    (only : (a b : K) → cmp a b ≡ Equal → a ≡ b) (key : E → K) where
  pub above : (a b : K) → cmp a b ≡ Less → cmp b a ≡ Greater
  above a b h = total.antisymm b a ∙ ap ordering_reverse h

  below : (a b : K) → cmp a b ≡ Greater → cmp b a ≡ Less
  below a b h = total.antisymm b a ∙ ap ordering_reverse h

  -- what a binary search answers
  pub place_found : (items : List E) (k : K) (r : Result ℕ ℕ) → IsByKey cmp key items → IsSearchInRange r (length items)
      → IsBinarySearchResult (λ e. cmp (key e) k) items r → IsPlace cmp key items k r
  place_found items k (Ok i) up within at = (within, λ d. only _ _ (at d))
  place_found items k (Err i) up within at =
      let sorted : IsSortedBy (λ a b. is_lt (cmp (key a) (key b))) items =
      λ j d _ m. ap is_lt
      (above (key (get_or items j d)) (key (get_or items (j + 1) d)) (up j (j + 1) d (omega arith) m)) in
      let parts : IsPartitionPoint (λ e. cmp (key e) k ≡ Less) (λ e. cmp (key e) k ≡ Greater) items i =
      at (searchable_from_sorted total key items k sorted) in
      (within, ((λ j d l m. ap is_lt (parts.0 j d l m)), (λ j d l m. ap is_gt (parts.1 j d l m))))

  -- how the others stand to the key of the one at a place
  in_front : (items : List E) (k : K) (i : ℕ) → IsByKey cmp key items → IsPlace cmp key items k (Ok i)
      → (j : ℕ) (d : E) → j < i → cmp (key (get_or items j d)) k ≡ Less
  in_front items k i up place j d l = ap (cmp (key (get_or items j d))) (sym (place.1 d)) ∙ up j i d l place.0

  behind : (items : List E) (k : K) (i : ℕ) → IsByKey cmp key items → IsPlace cmp key items k (Ok i)
      → (j : ℕ) (d : E) → i < j → j < length items → cmp (key (get_or items j d)) k ≡ Greater
  behind items k i up place j d l m =
      above k (key (get_or items j d)) (ap (λ n. cmp n (key (get_or items j d))) (sym (place.1 d)) ∙ up i j d l m)

  tied : (items : List E) (k : K) (i : ℕ) → IsPlace cmp key items k (Ok i) → (d : E) → cmp (key (get_or items i d)) k
      ≡ Equal
  tied items k i place d = ap (λ n. cmp n k) (place.1 d) ∙ tied_itself total k

  at_least : (items : List E) (k : K) (i : ℕ) → IsByKey cmp key items → IsPlace cmp key items k (Ok i)
      → (j : ℕ) (d : E) → i ≤ j → j < length items → is_before cmp key k (get_or items j d) ≡ false
  at_least items k i up place j d l m = elim (cases_lt i j) [
    | inl h ↦ ap is_lt (behind items k i up place j d h m)
    | inr h ↦ let same : j ≡ i = omega (arith, l, h) in rw same (ap is_lt (tied items k i place d))
  ]

  at_most : (items : List E) (k : K) (i : ℕ) → IsByKey cmp key items → IsPlace cmp key items k (Ok i)
      → (j : ℕ) (d : E) → j < suc i → is_behind cmp key k (get_or items j d) ≡ false
  at_most items k i up place j d l = elim (cases_lt j i) [
    | inl h ↦ ap is_gt (in_front items k i up place j d h)
    | inr h ↦ let same : j ≡ i = omega (arith, l, h) in rw same (ap is_gt (tied items k i place d))
  ]

  -- an item put in where its key belongs
  pub put_at : (items : List E) (e : E) (i : ℕ) → IsPlace cmp key items (key e) (Err i) → insert items i e
      ≡ with_item cmp key items e
  put_at items e i place =
      let front = kept_front (is_before cmp key (key e)) items i place.0
      (place.1.0, λ j d l m. not_before _ (place.1.1 j d l m)) in
      let back = kept_back (is_behind cmp key (key e)) items i place.0
      ((λ j d l m. not_behind _ (place.1.0 j d l m)), place.1.1) in
      sym (λ j. front j ++ (e ∷ back j))

  -- an item set where its key stands
  pub set_at : (items : List E) (e : E) (i : ℕ) → IsByKey cmp key items → IsPlace cmp key items (key e) (Ok i)
      → set items i e ≡ with_item cmp key items e
  set_at items e i up place =
      let front = kept_front (is_before cmp key (key e)) items i (omega (arith, place.0)) (
        (λ j d l m. ap is_lt (in_front items (key e) i up place j d m)),
        (λ j d l m. at_least items (key e) i up place j d l m),
      ) in
      let back = kept_back (is_behind cmp key (key e)) items (suc i) (omega (arith, place.0)) (
        (λ j d l m. at_most items (key e) i up place j d m),
        (λ j d l m. ap is_gt (behind items (key e) i up place j d (omega (arith, l)) m)),
      ) in
      set_is items i e place.0 ∙ sym (λ j. front j ++ (e ∷ back j))

  -- items stay in order
  pub IsByKey-with_item : (items : List E) (e : E) → IsByKey cmp key items → IsByKey cmp key (with_item cmp key items e)
  IsByKey-with_item items e up =
      let Rises : E → E → Type 0 = λ a b. cmp (key a) (key b) ≡ Less in
      let front = filter (is_before cmp key (key e)) items in
      let back = filter (is_behind cmp key (key e)) items in
      let after : All (Rises e) back =
      λ j d l. below _ (key e) (greater _ (filter_passes (is_behind cmp key (key e)) items j d l)) in
      let across : (a : E) → cmp (key a) (key e) ≡ Less → All (Rises a) (e ∷ back) =
      λ a h. All-cons (Rises a) e back h (λ j d l. total.trans (key a) (key e) _ h (after j d l)) in
      pairs_appended Rises front (e ∷ back) (AllPairs-filter Rises (is_before cmp key (key e)) items up)
      (AllPairs-cons Rises e back after (AllPairs-filter Rises (is_behind cmp key (key e)) items up))
      (λ j d l. across (get_or front j d) (lesser _ (filter_passes (is_before cmp key (key e)) items j d l)))

  -- the item at the place of its key is found
  pub item_at : (items : List E) (k : K) (i : ℕ) (held : E) → IsByKey cmp key items → IsPlace cmp key items k (Ok i)
      → get_or items i held ≡ held → item_of cmp key items k ≡ Some held
  item_at items k i held up place at =
      find_at (is_of cmp key k) items i held (λ j d l. ap is_eq (in_front items k i up place j d l)) place.0 at
      (ap (λ x. is_of cmp key k x) (sym at) ∙ ap is_eq (tied items k i place held))

  -- and none is where a key only belongs
  pub no_item : (items : List E) (k : K) (i : ℕ) → IsPlace cmp key items k (Err i) → item_of cmp key items k ≡ None
  no_item items k i place =
      find_absent (is_of cmp key k) items (λ j d l. elim (cases_lt j i) [
        | inl h ↦ neither_lt _ (place.1.0 j d (omega arith) h)
        | inr h ↦ neither_gt _ (place.1.1 j d h l)
      ])

  pub found_or_not : (items : List E) (k : K) (r : Result ℕ ℕ) → IsPlace cmp key items k r → is_ok r
      ≡ is_some (item_of cmp key items k)
  found_or_not [] k (Ok i) place = absurd (omega (arith, place.0))
  found_or_not (e ∷ items) k (Ok i) place =
      sym (any_found (is_of cmp key k) (e ∷ items) i e place.0 (ap is_eq (tied (e ∷ items) k i place e)))
  found_or_not items k (Err i) place = sym (ap is_some (no_item items k i place))

  -- ---- what is found after an item was put in

  stands : (k other : K) (e : E) → is_of cmp key k e ≡ true → cmp (key e) other ≡ cmp k other
  stands k other e h = ap (λ n. cmp n other) (only (key e) k (equal (cmp (key e) k) h))

  -- an item is found at its key
  pub item_of-own : (items : List E) (e : E) → item_of cmp key (with_item cmp key items e) (key e) ≡ Some e
  item_of-own items e =
      let p = is_of cmp key (key e) in
      let front = filter (is_before cmp key (key e)) items in
      let back = filter (is_behind cmp key (key e)) items in
      find-append p front (e ∷ back)
      ∙ ap (λ o. option_or o (find p (e ∷ back)))
      (find_dropped p (is_before cmp key (key e))
      (λ a h. ap is_lt (stands (key e) (key e) a h ∙ tied_itself total (key e))) items)
      ∙ ap (λ t. cond t (Some e) (find p back)) (ap is_eq (tied_itself total (key e)))

  -- and what is found at another key stays
  pub item_of-other : (items : List E) (e : E) (k : K) → (k ≡ key e → ⊥)
      → item_of cmp key (with_item cmp key items e) k ≡ item_of cmp key items k
  item_of-other items e k differs = found (cmp k (key e)) refl
    where
      p : E → Bool
      p = is_of cmp key k

      front : List E
      front = filter (is_before cmp key (key e)) items

      back : List E
      back = filter (is_behind cmp key (key e)) items

      passes_over : find p (e ∷ back) ≡ find p back
      passes_over = ap (λ t. cond t (Some e) (find p back))
          (is_false (p e) (λ h. differs (sym (only (key e) k (equal (cmp (key e) k) h)))))

      found : (r : Ordering) → cmp k (key e) ≡ r → find p (front ++ (e ∷ back)) ≡ find p items
      found Less h =
          find-append p front (e ∷ back)
          ∙ ap (λ o. option_or o (find p (e ∷ back)))
          (find_kept p (is_before cmp key (key e)) (λ a t. ap is_lt (stands k (key e) a t ∙ h)) items)
          ∙ ap (option_or (find p items))
          (passes_over ∙ find_dropped p (is_behind cmp key (key e)) (λ a t. ap is_gt (stands k (key e) a t ∙ h))
          items)
          ∙ or_none (find p items)
      found Equal h = absurd (differs (only k (key e) h))
      found Greater h =
          find-append p front (e ∷ back)
          ∙ ap (λ o. option_or o (find p (e ∷ back)))
          (find_dropped p (is_before cmp key (key e)) (λ a t. ap is_lt (stands k (key e) a t ∙ h)) items)
          ∙ passes_over
          ∙ find_kept p (is_behind cmp key (key e)) (λ a t. ap is_gt (stands k (key e) a t ∙ h)) items

  -- the same of items that are seen so
  pub put_seen : (items seen after : List E) (e : E) (i : ℕ) → items ≡ seen → IsPlace cmp key seen (key e) (Err i)
      → after ≡ insert items i e
      → after ≡ with_item cmp key seen e
  put_seen items seen after e i view place is =
      is ∙ put_at items e i (subst (λ s. IsPlace cmp key s (key e) (Err i)) (sym view) place)
      ∙ ap (λ s. with_item cmp key s e) view

  pub put_keeps : (items seen after : List E) (e : E) (i : ℕ) → items ≡ seen → IsByKey cmp key items
      → IsPlace cmp key seen (key e) (Err i)
      → after ≡ insert items i e → IsByKey cmp key after
  put_keeps items seen after e i view up place is =
      subst (IsByKey cmp key) (sym (put_seen items seen after e i view place is))
      (IsByKey-with_item seen e (subst (IsByKey cmp key) view up))

  pub set_seen : (items seen : List E) (e : E) (i : ℕ) → items ≡ seen → IsByKey cmp key items
      → IsPlace cmp key seen (key e) (Ok i)
      → set items i e ≡ with_item cmp key seen e
  set_seen items seen e i view up place =
      set_at items e i up (subst (λ s. IsPlace cmp key s (key e) (Ok i)) (sym view) place)
      ∙ ap (λ s. with_item cmp key s e) view

  pub set_keeps : (items seen : List E) (e : E) (i : ℕ) → items ≡ seen → IsByKey cmp key items
      → IsPlace cmp key seen (key e) (Ok i)
      → IsByKey cmp key (set items i e)
  set_keeps items seen e i view up place =
      subst (IsByKey cmp key) (sym (set_seen items seen e i view up place))
      (IsByKey-with_item seen e (subst (IsByKey cmp key) view up))

  -- ---- edits

  -- the items without one, at whose place it stood
  pub taken_at : (items : List E) (k : K) (i : ℕ) → IsByKey cmp key items → IsPlace cmp key items k (Ok i)
      → remove items i ≡ without_item cmp key items k
  taken_at items k i up place =
      sym (filter_but_one (λ e. not (is_of cmp key k e)) items i place.0
      (λ j d l. ap not (neither_lt _ (ap is_lt (in_front items k i up place j d l))))
      (λ d. ap (λ r. not (is_eq r)) (tied items k i place d))
      (λ j d l m. ap not (neither_gt _ (ap is_gt (behind items k i up place j d l m)))))

  -- an item that was taken out belongs where it stood
  pub taken_place : (items : List E) (i : ℕ) (x : E) → IsByKey cmp key items → i < length items → x ≡ get_or items i x
      → IsPlace cmp key (remove items i) (key x) (Err i)
  taken_place items i x up within at =
      let shorter = length-remove items i within in
      let is_x : (d : E) → get_or items i d ≡ x = λ d. get_or_default items i d x within ∙ sym at in (
        omega (arith, shorter, within),
        (
          (λ j d _ l. ap (is_before cmp key (key x)) (get_or-remove_below items i d j l within)
              ∙ ap is_lt (ap (λ y. cmp (key (get_or items j d)) (key y)) (sym (is_x d)) ∙ up j i d l within)),
          (λ j d l m. (let in_list : j + 1 < length items = omega (arith, m, shorter) in
              ap (is_behind cmp key (key x)) (get_or-remove_above items i d j l within)
              ∙ ap is_gt (ap (λ y. cmp (key (get_or items (j + 1) d)) (key y)) (sym (is_x d))
              ∙ above _ _ (up i (j + 1) d (omega (arith, l)) in_list)))),
        ),
      )

  -- what was put in is at its place, and what was there is in place of what is put in its stead
  pub swapped_place : (items : List E) (i : ℕ) (e held : E) → IsPlace cmp key items (key e) (Ok i) → held
      ≡ get_or items i held → IsPlace cmp key (set items i e) (key held) (Ok i)
  swapped_place items i e held place at =
      let long = length-set items i e in (
        omega (arith, place.0, long),
        λ d. ap key (get_or-set_same items i e d place.0) ∙ sym (place.1 held)
            ∙ ap key (sym at),
      )

  -- ---- items set one after another

  pub all_set-push : (held more : List E) (e : E) → all_set cmp key held (more ++ e ∷ [])
      ≡ with_item cmp key (all_set cmp key held more) e
  all_set-push held [] e = refl
  all_set-push held (first ∷ more) e = all_set-push (with_item cmp key held first) more e

  pub IsByKey-all_set : (held more : List E) → IsByKey cmp key held → IsByKey cmp key (all_set cmp key held more)
  IsByKey-all_set held [] up = up
  IsByKey-all_set held (e ∷ more) up = IsByKey-all_set (with_item cmp key held e) more (IsByKey-with_item held e up)

  -- the last of some items, or else this
  abbrev last_or : Option E → List E → Option E
  last_or found [] = found
  last_or found (e ∷ more) = last_or (Some e) more

  -- what is found after one more was set is that one at its key, and else what was found
  pub item_of-after : (held : List E) (e : E) (k : K) (b : Bool) → is_of cmp key k e ≡ b
      → item_of cmp key (with_item cmp key held e) k ≡ cond b (Some e) (item_of cmp key held k)
  item_of-after held e k true h =
      ap (item_of cmp key (with_item cmp key held e)) (sym (only (key e) k (equal (cmp (key e) k) h)))
      ∙ item_of-own held e
  item_of-after held e k false h =
      item_of-other held e k
      (λ same. false≢true (sym h ∙ ap (λ n. is_eq (cmp (key e) n)) same ∙ ap is_eq (tied_itself total (key e))))

  item_of-all_set : (held more : List E) (k : K) → item_of cmp key (all_set cmp key held more) k
      ≡ last_or (item_of cmp key held k) (filter (is_of cmp key k) more)
  item_of-all_set held [] k = refl
  item_of-all_set held (e ∷ more) k = item_of-all_set (with_item cmp key held e) more k ∙ at (is_of cmp key k e) refl
    where
      at : (b : Bool) → is_of cmp key k e ≡ b
          → last_or (item_of cmp key (with_item cmp key held e) k) (filter (is_of cmp key k) more)
          ≡ last_or (item_of cmp key held k)
          (cond b (e ∷ filter (is_of cmp key k) more) (filter (is_of cmp key k) more))
      at true h = ap (λ o. last_or o (filter (is_of cmp key k) more)) (item_of-after held e k true h)
      at false h = ap (λ o. last_or o (filter (is_of cmp key k) more)) (item_of-after held e k false h)

  -- ---- two lists in order with the same item at each key are the same

  not_among : (k : K) (ys : List E) → All (λ y. cmp k (key y) ≡ Less) ys → item_of cmp key ys k ≡ None
  not_among k ys less = find_absent (is_of cmp key k) ys (λ i d l. ap is_eq (above k _ (less i d l)))

  at_head : (x : E) (xs : List E) → item_of cmp key (x ∷ xs) (key x) ≡ Some x
  at_head x xs = ap (λ t. cond t (Some x) (item_of cmp key xs (key x))) (ap is_eq (tied_itself total (key x)))

  after_head : (x : E) (xs : List E) (k : K) → is_of cmp key k x ≡ false → item_of cmp key (x ∷ xs) k
      ≡ item_of cmp key xs k
  after_head x xs k h = ap (λ t. cond t (Some x) (item_of cmp key xs k)) h

  -- the keys behind the first are greater than it, and than each lesser one
  pub greater_behind : (x : E) (xs : List E) → IsByKey cmp key (x ∷ xs) → All (λ y. cmp (key x) (key y) ≡ Less) xs
  greater_behind x xs up i d l = up 0 (suc i) d (omega arith) (omega (arith, l))

  behind_lesser : (k : K) (x : E) (xs : List E) → IsByKey cmp key (x ∷ xs) → cmp k (key x) ≡ Less
      → All (λ y. cmp k (key y) ≡ Less) (x ∷ xs)
  behind_lesser k x xs up h =
      All-cons (λ y. cmp k (key y) ≡ Less) x xs h (λ i d l. total.trans k (key x) _ h (greater_behind x xs up i d l))

  pub rest_by_key : (x : E) (xs : List E) → IsByKey cmp key (x ∷ xs) → IsByKey cmp key xs
  rest_by_key x xs up i j d l m = up (suc i) (suc j) d (omega (arith, l)) (omega (arith, m))

  -- the first of one has no lesser key than the first of the other
  no_lesser_first : (x y : E) (xs ys : List E) → IsByKey cmp key (y ∷ ys) → item_of cmp key (x ∷ xs) (key x)
      ≡ item_of cmp key (y ∷ ys) (key x) → cmp (key x) (key y) ≡ Less → ⊥
  no_lesser_first x y xs ys up same h =
      false≢true (sym (ap is_some
      (sym (at_head x xs) ∙ same ∙ not_among (key x) (y ∷ ys) (behind_lesser (key x) y ys up h))))

  abbrev or_else : E → Option E → E
  or_else d None = d
  or_else d (Some x) = x

  same_rest : (x : E) (xs ys : List E) → IsByKey cmp key (x ∷ xs) → IsByKey cmp key (x ∷ ys)
      → ((k : K) → item_of cmp key (x ∷ xs) k ≡ item_of cmp key (x ∷ ys) k) → (k : K) (b : Bool) → is_of cmp key k x
      ≡ b → item_of cmp key xs k ≡ item_of cmp key ys k
  same_rest x xs ys up_x up_y same k true h =
      let at : key x ≡ k = only (key x) k (equal (cmp (key x) k) h) in
      subst (λ n. item_of cmp key xs n ≡ item_of cmp key ys n) at
      (not_among (key x) xs (greater_behind x xs up_x) ∙ sym (not_among (key x) ys (greater_behind x ys up_y)))
  same_rest x xs ys up_x up_y same k false h = sym (after_head x xs k h) ∙ same k ∙ after_head x ys k h

  pub same_items : (xs ys : List E) → IsByKey cmp key xs → IsByKey cmp key ys
      → ((k : K) → item_of cmp key xs k ≡ item_of cmp key ys k) → xs ≡ ys
  same_items [] [] up_x up_y same = refl
  same_items [] (y ∷ ys) up_x up_y same = absurd (false≢true (ap is_some (same (key y) ∙ at_head y ys)))
  same_items (x ∷ xs) [] up_x up_y same = absurd (false≢true (ap is_some (sym (same (key x)) ∙ at_head x xs)))
  same_items (x ∷ xs) (y ∷ ys) up_x up_y same =
      firsts (same_items xs ys (rest_by_key x xs up_x) (rest_by_key y ys up_y)) (cmp (key x) (key y)) refl
    where
      one : (((k : K) → item_of cmp key xs k ≡ item_of cmp key ys k) → xs ≡ ys) → x ≡ y → x ∷ xs ≡ y ∷ ys
      one same_after e =
          let up : IsByKey cmp key (x ∷ ys) = subst (λ z. IsByKey cmp key (z ∷ ys)) (sym e) up_y in
          let alike : (k : K) → item_of cmp key (x ∷ xs) k ≡ item_of cmp key (x ∷ ys) k =
          λ k. same k ∙ ap (λ z. item_of cmp key (z ∷ ys) k) (sym e) in
          let rest = same_after (λ k. same_rest x xs ys up_x up alike k (is_of cmp key k x) refl) in
          λ i. e i ∷ rest i

      firsts : (((k : K) → item_of cmp key xs k ≡ item_of cmp key ys k) → xs ≡ ys) → (r : Ordering)
          → cmp (key x) (key y) ≡ r → x ∷ xs ≡ y ∷ ys
      firsts same_after Less h = absurd (no_lesser_first x y xs ys up_y (same (key x)) h)
      firsts same_after Greater h =
          absurd (no_lesser_first y x ys xs up_x (sym (same (key y))) (below (key x) (key y) h))
      firsts same_after Equal h =
          let tie = only (key x) (key y) h in
          one same_after (ap (or_else x)
          (sym (at_head x xs) ∙ same (key x) ∙ ap (item_of cmp key (y ∷ ys)) tie ∙ at_head y ys))

  -- ---- what a stable sort leaves

  reversed_tie : (r : Ordering) → (not (is_lt (ordering_reverse r)) && not (is_lt r)) ≡ is_eq r
  reversed_tie Less = refl
  reversed_tie Equal = refl
  reversed_tie Greater = refl

  abbrev less_key : E → E → Bool
  less_key a b = is_lt (cmp (key a) (key b))

  -- what ties with an item is of its key
  tie : (k : K) (x y : E) → key x ≡ k → ties less_key x y ≡ is_of cmp key k y
  tie k x y at =
      ap (λ n. not (is_lt (cmp n (key y))) && not (is_lt (cmp (key y) n))) at
      ∙ ap (λ r. not (is_lt r) && not (is_lt (cmp (key y) k))) (total.antisymm k (key y)) ∙ reversed_tie (cmp (key y) k)

  kept_by_one : (items sorted : List E) → IsStableBy less_key items sorted → (k : K) (x : E) → is_of cmp key k x ≡ true
      → filter (is_of cmp key k) sorted ≡ filter (is_of cmp key k) items
  kept_by_one items sorted stable k x h =
      let at = only (key x) k (equal (cmp (key x) k) h) in
      let alike : ties less_key x ≡ is_of cmp key k = λ i y. tie k x y at i in
      subst (λ p. filter p sorted ≡ filter p items) alike (stable x)

  -- a stable sort keeps the items of each key, in their order
  pub kept : (items sorted : List E) → IsStableBy less_key items sorted → (k : K) → filter (is_of cmp key k) sorted
      ≡ filter (is_of cmp key k) items
  kept items sorted stable k = among (filter (is_of cmp key k) sorted) (filter (is_of cmp key k) items) refl refl
    where
      Passes : List E → Type 0
      Passes zs = All (λ e. is_of cmp key k e ≡ true) zs

      among : (zs ws : List E) → filter (is_of cmp key k) sorted ≡ zs → filter (is_of cmp key k) items ≡ ws
          → filter (is_of cmp key k) sorted ≡ filter (is_of cmp key k) items
      among [] [] e f = e ∙ sym f
      among (z ∷ zs) ws e f =
          kept_by_one items sorted stable k z
          (All-head (λ x. is_of cmp key k x ≡ true) z zs (subst Passes e (filter_passes (is_of cmp key k) sorted)))
      among [] (w ∷ ws) e f =
          kept_by_one items sorted stable k w
          (All-head (λ x. is_of cmp key k x ≡ true) w ws (subst Passes f (filter_passes (is_of cmp key k) items)))

  -- so it does not matter whether items are set one after another as they come or sorted
  pub all_set-sorted : (items sorted : List E) → IsStableBy less_key items sorted → all_set cmp key [] sorted
      ≡ all_set cmp key [] items
  all_set-sorted items sorted stable =
      let none : IsByKey cmp key [] = λ i j d l m. absurd (omega (arith, m)) in
      same_items (all_set cmp key [] sorted) (all_set cmp key [] items) (IsByKey-all_set [] sorted none)
      (IsByKey-all_set [] items none)
      (λ k. item_of-all_set [] sorted k ∙ ap (last_or None) (kept items sorted stable k)
      ∙ sym (item_of-all_set [] items k))
