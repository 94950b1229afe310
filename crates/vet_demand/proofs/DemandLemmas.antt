-- Pairs in order: how they come to be so, and what a search among them tells.
use Rattle.std.proofs.Common.{◌≡◌, ℕ, ◌<◌, ◌+◌, false, List, [], length, get_or, is_ok, Less, Equal, Greater, Result}
use Rattle.std.proofs.Common.{Ok, Err, refl, sym, ap, ◌∙◌, arith, ◌++◌, take, drop, inl, inr}
use Rattle.std.specs.Bool.{Decides}
use Rattle.std.specs.List.{Contains}
use Rattle.std.specs.List.Retain.{DiffersFromLast, IsFiltered}
use Rattle.std.specs.List.Sorted.{IsBinarySearchResult, IsPartitionPoint, IsPermutation, IsSearchInRange, IsSorted}
use Rattle.std.specs.Ordering.{is_lt, ordering_reverse}
use Rattle.std.specs.Cmp.{tied_itself}
use Rattle.std.proofs.lemmas.Bool.{cases_lt}
use Rattle.std.proofs.lemmas.List.Sorted.{searchable_from_sorted}
use Rattle.vet_base.proofs.SortedOnce.{are_once_lent}
use Rattle.vet_demand.specs.declared.pair.Pair.{Pair}
use Rattle.vet_demand.specs.Demand.{AreThePairs}
use Rattle.vet_demand.specs.Pair.{IsInOrder, pair_cmp, pair_eq}
use Rattle.vet_demand.specs.PairLaws.{pair_cmp-IsAntisymmetric, pair_eq-Decides, pair_total}

-- what a sort of all n pairs lent by a list, and the removal of doubles, leave
pub are_the_pairs : (n : ℕ) (source lent sorted pairs : List Pair) → lent ≡ source → length sorted ≡ n
    → IsPermutation lent sorted → IsSorted pair_cmp sorted
    → IsFiltered (DiffersFromLast pair_eq) [] (take n (sorted ++ drop (length sorted) source)) pairs
    → AreThePairs source pairs
are_the_pairs n source lent sorted pairs all long moved up left =
    let those = are_once_lent pair_cmp pair_total (λ p q. (pair_eq-Decides p q).0) n source lent sorted pairs all long
    moved up left in
    record { in_order = those.in_order; same = those.same }

not_less : (p q : Pair) → pair_cmp p q ≡ Less → is_lt (pair_cmp q p) ≡ false
not_less p q h = ap is_lt (pair_total.antisymm q p ∙ ap ordering_reverse h)

-- a pair that is held has no place to stand at
no_place : (pairs : List Pair) (p : Pair) (i k : ℕ)
    → IsPartitionPoint (λ q. pair_cmp q p ≡ Less) (λ q. pair_cmp q p ≡ Greater) pairs i
    → k < length pairs → get_or pairs k p ≡ p → ⊥
no_place pairs p i k parts within at =
    let tied : pair_cmp (get_or pairs k p) p ≡ Equal = rw at (tied_itself pair_total p) in
    elim (cases_lt k i) [
      | inl in_front ↦ cc (sym tied ∙ parts.0 k p (omega arith) in_front)
      | inr behind ↦ cc (sym tied ∙ parts.1 k p behind within)
    ]

-- a search among pairs in order finds a pair just where it is among them
pub search_finds : (pairs : List Pair) (p : Pair) (r : Result ℕ ℕ) → IsInOrder pairs → IsSearchInRange r (length pairs)
    → IsBinarySearchResult (λ q. pair_cmp q p) pairs r → Decides (is_ok r) (Contains pairs p)
search_finds pairs p (Ok i) h within at = (λ _. (i, within, pair_cmp-IsAntisymmetric _ _ (at p)), λ _. refl)
search_finds pairs p (Err i) h within at =
    let parts = at (searchable_from_sorted pair_total (λ q. q) pairs p
    (λ k d _ m. not_less (get_or pairs k d) (get_or pairs (k + 1) d) (h k (k + 1) d (omega arith) m))) in
    (λ e. cc e, λ held. absurd (no_place pairs p i held.0 parts held.1 held.2))
