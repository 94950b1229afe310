-- One item more in a list by key stays within a limit that was asked for.
use Rattle.std.proofs.Common.{◌≡◌, ℕ, ◌+◌, ◌≤◌, false, ◌&&◌, is_none, List, [], ◌∷◌, length, Option, Some, None, refl}
use Rattle.std.proofs.Common.{ap, ◌∙◌, arith}
use Rattle.std.specs.Cmp.{IsTotalOrder}
use Rattle.std.specs.List.{sum_by}
use Rattle.std.specs.Prelude.{nat_lt}
use Rattle.std.specs.declared.cmp.Ordering.{Ordering}
use Rattle.std.specs.declared.cmp.Ordering.TheVariants.{Equal}
use Rattle.std.proofs.lemmas.Bool.{ltb-false}
use Rattle.std.proofs.lemmas.List.Sums.{sum_by-cons}
use Rattle.vet_base.specs.Keyed.{IsByKey, item_of, with_item}
use Rattle.vet_base.proofs.KeyedParts.{held_sum, sum_with}

abbrev one : {E : Type 0} → E → ℕ
one e = 1

counted : {E : Type 0} (items : List E) → sum_by one items ≡ length items
counted [] = refl
counted (e ∷ items) = sum_by-cons one e items ∙ omega (arith, counted items)

module _ {K E : Type 0} (cmp : K → K → Ordering) (total : IsTotalOrder cmp)
    (only : (a b : K) → cmp a b ≡ Equal → a ≡ b) (key : E → K) where
  -- where the key is held, or there is room below the limit, one more is within it
  pub few_with : (most : ℕ) (items : List E) (e : E) → IsByKey cmp key items → length items ≤ most
      → (is_none (item_of cmp key items (key e)) && nat_lt most (length items + 1)) ≡ false → length
      (with_item cmp key items e) ≤ most
  few_with most items e up few limit = by (item_of cmp key items (key e)) (sum_with cmp total only key one items e up)
      limit
    where
      by : (o : Option E) → sum_by one (with_item cmp key items e) + held_sum one o ≡ sum_by one items + 1 →
          (is_none o && nat_lt most (length items + 1)) ≡ false
          → length (with_item cmp key items e) ≤ most
      by None sum limit =
          let fits = ltb-false most (length items + 1) limit in
          omega (arith, sum, fits, counted items, counted (with_item cmp key items e))
      by (Some x) sum limit = omega (arith, sum, few, counted items, counted (with_item cmp key items e))

  -- in place of the one held there are as many
  pub few_over : (most : ℕ) (items : List E) (e held : E) → IsByKey cmp key items → length items ≤ most → item_of cmp
      key items (key e) ≡ Some held
      → length (with_item cmp key items e) ≤ most
  few_over most items e held up few found = few_with most items e up few
      (ap (λ o. is_none o && nat_lt most (length items + 1)) found)
