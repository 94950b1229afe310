-- What a sort leaves of a list, and then the removal of doubles: its items in order, each once.
use Rattle.std.proofs.Common.{◌≡◌, ◌↔◌, ℕ, true, List, [], length, Ordering, Less, refl, sym, ap, ◌∙◌, ◌++◌, take}
use Rattle.std.proofs.Common.{drop}
use Rattle.std.specs.Cmp.{IsTotalOrder, eq_by_cmp_equiv}
use Rattle.std.specs.List.{AllPairs, Contains, dedup}
use Rattle.std.specs.List.Retain.{DiffersFromLast, IsFiltered}
use Rattle.std.specs.List.Sorted.{IsPermutation, IsSorted}
use Rattle.std.specs.Ordering.{eq_by_cmp}
use Rattle.std.proofs.Math.Seq.{take-append_seam}
use Rattle.std.proofs.lemmas.List.Filters.{dedup_is}
use Rattle.std.proofs.lemmas.List.Kept.{Contains-dedup, Contains-from_dedup, IsStrictlySortedBy-dedup}
use Rattle.std.proofs.lemmas.List.Sorted.{Contains-permutation, IsPermutation-sym}
use Rattle.std.proofs.lemmas.Map.Keys.{Less-from_sorted}

module _ {X : Type 0} (cmp : X → X → Ordering) (total : IsTotalOrder cmp)
    (only : (x y : X) → eq_by_cmp cmp x y ≡ true → x ≡ y) where
  -- the items of a list, each once, in order
  pub record AreOnce (source once : List X) : Type 0 where
    pub in_order : AllPairs (λ x y. cmp x y ≡ Less) once
    pub same : (x : X) → Contains once x ↔ Contains source x

  are_once : (source sorted once : List X) → IsPermutation source sorted → IsSorted cmp sorted
      → IsFiltered (DiffersFromLast (eq_by_cmp cmp)) [] sorted once → AreOnce source once
  are_once source sorted once moved up left =
      let rising = IsStrictlySortedBy-dedup total {E = eq_by_cmp cmp} (λ x y. refl) sorted up in
      let of_dedup : AreOnce source (dedup (eq_by_cmp cmp) sorted) = record {
        in_order = λ i j d l m. Less-from_sorted cmp (dedup (eq_by_cmp cmp) sorted) i j d rising l m;
        same = λ x. (
          λ h. Contains-permutation sorted source x (IsPermutation-sym source sorted moved)
              (Contains-from_dedup (eq_by_cmp cmp) sorted x h),
          λ h. Contains-dedup (eq_by_cmp_equiv total) only sorted x (Contains-permutation source sorted x moved h),
        );
      } in
      rw (dedup_is (eq_by_cmp cmp) sorted once left) of_dedup

  -- the same, where the sort was of all n items lent by the list, and is written back to it
  pub are_once_lent : (n : ℕ) (source lent sorted once : List X) → lent ≡ source → length sorted ≡ n
      → IsPermutation lent sorted → IsSorted cmp sorted
      → IsFiltered (DiffersFromLast (eq_by_cmp cmp)) [] (take n (sorted ++ drop (length sorted) source)) once
      → AreOnce source once
  are_once_lent n source lent sorted once all long moved up left =
      let rest = drop (length sorted) source in
      let back : take n (sorted ++ rest) ≡ sorted = ap (λ m. take m (sorted ++ rest)) (sym long)
      ∙ take-append_seam sorted rest in
      are_once source sorted once (rw all at moved) up (rw back at left)
