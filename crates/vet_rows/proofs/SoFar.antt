-- What holds of each item so far holds with one more.
use Rattle.std.proofs.Common.{◌≡◌, ℕ, ◌+◌, ◌<◌, ◌∷◌, List, [], get_or, inl, inr, length, subst, take, sym}
use Rattle.vet_base.specs.Items.{IsIn}
use Rattle.vet_base.proofs.ItemLemmas.{in_append}
use Rattle.vet_item_rows.proofs.Listed.{one_further}

module _ {X : Type 0} (P : X → Type 0) where
  pub one_more : (xs : List X) (i : ℕ) (x : X) → i < length xs → x ≡ get_or xs i x
      → ((y : X) → IsIn y (take i xs) → P y) → P x → (y : X) → IsIn y (take (i + 1) xs) → P y
  one_more xs i x within is before now y among =
      elim (in_append (take i xs) (x ∷ []) y (subst (IsIn y) (sym (one_further xs i x within is)) among)) [
        | inl old ↦ before y old
        | inr (inl here) ↦ subst P (sym here) now
        | inr (inr none) ↦ absurd none
      ]
