-- One item of a list by key in place of another: what an edit, or an item set or taken out, leaves.
use Rattle.std.proofs.Common.{◌≡◌, ◌≢◌, ◌⊎◌, ℕ, inl, inr, Bool, true, false, List, [], ◌∷◌, ◌++◌, refl, sym}
use Rattle.std.proofs.Common.{ap, subst, ◌∙◌, cond, zero, suc, get_or, not, set, Option, Some, None, Ok}
use Rattle.std.specs.List.{AllPairs, filter, insert, remove, slice_get}
use Rattle.std.specs.Cmp.{IsTotalOrder, tied_itself}
use Rattle.std.specs.Ordering.{is_eq, is_gt, is_lt}
use Rattle.std.specs.declared.cmp.Ordering.{Ordering}
use Rattle.std.specs.declared.cmp.Ordering.TheVariants.{Less, Equal, Greater}
use Rattle.std.proofs.lemmas.Bool.{false≢true}
use Rattle.std.proofs.lemmas.Option.{get_or_from_slice_get}
use Rattle.vet_base.specs.Items.{IsIn}
use Rattle.vet_base.specs.Keyed.{Fits, IsByKey, IsPlace, KeyedRoom, edited, is_before, is_behind, is_of, item_of}
use Rattle.vet_base.specs.Keyed.{with_item, without_item}
use Rattle.vet_base.specs.declared.keyed.KeyedEdit.{KeyedEdit}
use Rattle.vet_base.specs.declared.keyed.KeyedEdit.TheVariants as edit
use Rattle.vet_base.proofs.Comparisons.{equal}
use Rattle.vet_base.proofs.ItemLemmas.{filter_in, in_all, in_append, in_back, in_filter, in_front, pairs_head}
use Rattle.vet_base.proofs.ItemLemmas.{pairs_tail}
use Rattle.vet_base.proofs.KeyedItems.{of_one_key}
use Rattle.vet_base.proofs.KeyedLemmas.{set_at}
use Rattle.vet_rows.specs.KeyedItems.{added_item, removed_item}
use Rattle.vet_rows.proofs.ListEdits.{at_in, in_insert, in_remove, insert_in, new_in_set, remove_in, set_in}

-- one item in place of another, where either may be missing: none that stays has the key of the one that goes
pub record IsOneForOne {K E : Type 0} (key : E → K) (gone come : Option E) (old new : List E) : Type 0 where
  pub come_in : (x : E) → come ≡ Some x → IsIn x new
  pub gone_from : (x : E) → gone ≡ Some x → IsIn x old
  pub new_from : (x : E) → IsIn x new
      → (come ≡ Some x) ⊎ (IsIn x old × ((g : E) → gone ≡ Some g → key g ≡ key x → ⊥))
  pub old_to : (x : E) → IsIn x old → IsIn x new ⊎ (gone ≡ Some x)

-- ---- places of lists

module _ {K E : Type 0} (key : E → K) where
  pub put_is : (items : List E) (i : ℕ) (e : E) → IsOneForOne key None (Some e) items (insert items i e)
  put_is items i e = record {
    come_in = λ x h. insert_in items i e x (inl (cc h));
    gone_from = λ x h. absurd (cc h);
    new_from = λ x j. elim (in_insert items i e x j) [
      | inl same ↦ inl (ap Some (sym same))
      | inr other ↦ inr (other, λ g h. absurd (cc h))
    ];
    old_to = λ x j. inl (insert_in items i e x (inr j));
  }

  -- what is left has another key, where keys differ
  apart_left : (items : List E) (i : ℕ) (g x : E) → AllPairs (λ a b. key a ≢ key b) items → slice_get items i ≡ Some g
      → IsIn x (remove items i) → key g ≡ key x → ⊥
  apart_left [] i g x up at j same = cc at
  apart_left (y ∷ items) zero g x up at j same =
      let is : g ≡ y = cc at in
      in_all (λ b. key y ≢ key b) items (pairs_head (λ a b. key a ≢ key b) y items up) x j (ap key (sym is) ∙ same)
  apart_left (y ∷ items) (suc i) g x up at (inl here) same =
      in_all (λ b. key y ≢ key b) items (pairs_head (λ a b. key a ≢ key b) y items up) g (at_in items i g at)
      (ap key (sym here) ∙ sym same)
  apart_left (y ∷ items) (suc i) g x up at (inr later) same =
      apart_left items i g x (pairs_tail (λ a b. key a ≢ key b) y items up) at later same

  pub take_is : (items : List E) (i : ℕ) → AllPairs (λ a b. key a ≢ key b) items
      → IsOneForOne key (slice_get items i) None items (remove items i)
  take_is items i up = record {
    come_in = λ y h. absurd (cc h);
    gone_from = λ y h. at_in items i y h;
    new_from = λ y j. inr (in_remove items i y j, λ g h. apart_left items i g y up h j);
    old_to = λ y j. remove_in items i y j;
  }

-- ---- keys in a total order, in which only equals tie

module _ {K E : Type 0} (cmp : K → K → Ordering) (total : IsTotalOrder cmp)
    (only : (a b : K) → cmp a b ≡ Equal → a ≡ b) (key : E → K) where
  abbrev Rises : E → E → Type 0
  Rises a b = cmp (key a) (key b) ≡ Less

  pub keys_differ : (items : List E) → IsByKey cmp key items → AllPairs (λ a b. key a ≢ key b) items
  keys_differ items up i j d l m same = cc (sym (up i j d l m) ∙ ap (λ k. cmp k (key (get_or items j d))) same
      ∙ tied_itself total (key (get_or items j d)))

  -- ---- an item set, or taken out

  pub in_with : (items : List E) (e x : E) → IsIn x (with_item cmp key items e)
      → (x ≡ e) ⊎ (IsIn x items × (key x ≡ key e → ⊥))
  in_with items e x i =
      elim (in_append (filter (is_before cmp key (key e)) items) (e ∷ filter (is_behind cmp key (key e)) items) x i) [
        | inl front ↦ (let h = in_filter (is_before cmp key (key e)) items x front in
            inr (h.0, λ at. false≢true (sym (ap is_lt (ap (λ n. cmp n (key e)) at ∙ tied_itself total (key e))) ∙ h.1)))
        | inr rest ↦ elim rest [
          | inl here ↦ inl here
          | inr back ↦ (let h = in_filter (is_behind cmp key (key e)) items x back in
              inr (
                h.0,
                λ at. false≢true
                    (sym (ap is_gt (ap (λ n. cmp n (key e)) at ∙ tied_itself total (key e))) ∙ h.1),
              ))
        ]
      ]

  new_in_with : (items : List E) (e : E) → IsIn e (with_item cmp key items e)
  new_in_with items e =
      in_back (filter (is_before cmp key (key e)) items) (e ∷ filter (is_behind cmp key (key e)) items) e (inl refl)

  with_in : (items : List E) (e x : E) → IsIn x items → IsIn x (with_item cmp key items e) ⊎ (key x ≡ key e)
  with_in items e x i = stands (cmp (key x) (key e)) refl
    where
      front : List E
      front = filter (is_before cmp key (key e)) items

      back : List E
      back = filter (is_behind cmp key (key e)) items

      stands : (r : Ordering) → cmp (key x) (key e) ≡ r → IsIn x (front ++ (e ∷ back)) ⊎ (key x ≡ key e)
      stands Less h =
          inl (in_front front (e ∷ back) x (filter_in (is_before cmp key (key e)) items x i (ap is_lt h)))
      stands Equal h = inr (only (key x) (key e) h)
      stands Greater h =
          inl (in_back front (e ∷ back) x (inr (filter_in (is_behind cmp key (key e)) items x i (ap is_gt h))))

  in_without : (items : List E) (k : K) (x : E) → IsIn x (without_item cmp key items k)
      → IsIn x items × (key x ≡ k → ⊥)
  in_without items k x i =
      let h = in_filter (λ y. not (is_of cmp key k y)) items x i in
      (h.0, λ at. false≢true (sym (ap (λ r. not (is_eq r)) (ap (λ n. cmp n k) at ∙ tied_itself total k)) ∙ h.1))

  -- what is found at a key is among the items, and has it
  pub found_in : (items : List E) (k : K) (x : E) → item_of cmp key items k ≡ Some x → IsIn x items × (key x ≡ k)
  found_in [] k x h = absurd (cc h)
  found_in (y ∷ items) k x h = by (found_in items k x) (is_of cmp key k y) refl h
    where
      by : (item_of cmp key items k ≡ Some x → IsIn x items × (key x ≡ k)) → (b : Bool) → is_of cmp key k y ≡ b
          → (let found : Option E = cond b (Some y) (item_of cmp key items k) in found) ≡ Some x
          → IsIn x (y ∷ items) × (key x ≡ k)
      by rest true t e = (let same : x ≡ y = cc e in (inl same, ap key same ∙ only (key y) k (equal (cmp (key y) k) t)))
      by rest false t e = (let at = rest e in (inr at.0, at.1))

  -- an item of a list is found at its key
  pub in_found : (items : List E) (x : E) → IsByKey cmp key items → IsIn x items
      → item_of cmp key items (key x) ≡ Some x
  in_found items x up i = by (item_of cmp key items (key x)) refl
    where
      none : (ys : List E) → IsIn x ys → item_of cmp key ys (key x) ≡ None → ⊥
      none [] j h = j
      none (y ∷ ys) j h = step (none ys) (is_of cmp key (key x) y) refl j h
        where
          step : (IsIn x ys → item_of cmp key ys (key x) ≡ None → ⊥) → (b : Bool) → is_of cmp key (key x) y ≡ b
              → IsIn x (y ∷ ys) → (let found : Option E = cond b (Some y) (item_of cmp key ys (key x)) in found) ≡ None
              → ⊥
          step rest true t l e = cc e
          step rest false t (inl here) e =
              false≢true (sym t ∙ ap is_eq (ap (λ z. cmp (key z) (key x)) (sym here) ∙ tied_itself total (key x)))
          step rest false t (inr later) e = rest later e

      by : (found : Option E) → item_of cmp key items (key x) ≡ found → found ≡ Some x
      by None h = absurd (none items i h)
      by (Some y) h = (let at = found_in items (key x) y h in
          ap Some (of_one_key cmp total only key items up y x at.0 i at.1))

  -- an item set in place of the one of its key
  pub with_is : (items : List E) (e : E) → IsByKey cmp key items
      → IsOneForOne key (item_of cmp key items (key e)) (Some e) items (with_item cmp key items e)
  with_is items e up = record {
    come_in = λ x h. (let same : e ≡ x = cc h in subst (λ y. IsIn y (with_item cmp key items e)) same
        (new_in_with items e));
    gone_from = λ x h. (found_in items (key e) x h).0;
    new_from = λ x i. elim (in_with items e x i) [
      | inl same ↦ inl (ap Some (sym same))
      | inr other ↦ inr (other.0, λ g h at. other.1 (sym at ∙ (found_in items (key e) g h).1))
    ];
    old_to = λ x i. elim (with_in items e x i) [
      | inl there ↦ inl there
      | inr at ↦ inr (ap (item_of cmp key items) (sym at) ∙ in_found items x up i)
    ];
  }

  -- ---- edits

  pub swap_is : (items : List E) (i : ℕ) (e : E) → IsByKey cmp key items → IsPlace cmp key items (key e) (Ok i)
      → IsOneForOne key (slice_get items i) (Some e) items (set items i e)
  swap_is items i e up place = record {
    come_in = λ x h. (let same : e ≡ x = cc h in subst (λ y. IsIn y (set items i e)) same
        (new_in_set items i e place.0));
    gone_from = λ x h. at_in items i x h;
    new_from = λ x j. elim (in_with items e x (subst (IsIn x) (set_at cmp total only key items e i up place) j)) [
      | inl same ↦ inl (ap Some (sym same))
      | inr other ↦ inr (
        other.0,
        λ g h at. other.1
            (sym at ∙ ap key (sym (get_or_from_slice_get items i g g h)) ∙ place.1 g),
      )
    ];
    old_to = λ x j. set_in items i e x j;
  }

  -- an edit that fits is one item in place of another
  pub edit_is : (change : KeyedEdit E) (items : KeyedRoom E) → IsByKey cmp key items.items
      → Fits cmp key change items
      → IsOneForOne key (removed_item change items.items) (added_item change) items.items (edited change items.items)
  edit_is (edit.Put i e) items up fits = put_is key items.items i e
  edit_is (edit.Take i) items up fits = take_is key items.items i (keys_differ items.items up)
  edit_is (edit.Swap i e) items up fits = swap_is items.items i e up fits
