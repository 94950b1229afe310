-- What waits once one was taken out.
use Rattle.std.proofs.Common.{◌≡◌, ℕ, ◌<◌, List, [], ◌∷◌, ◌++◌, length, true, sym, inl, inr, arith}
use Rattle.std.specs.List.{All}
use Rattle.std.proofs.lemmas.List.Elements.{Contains-push_cases}
use Rattle.std.proofs.lemmas.List.{get_or_append_left, length-append}
use Rattle.vet_masks.proofs.Taken.{true_or_false}
use Rattle.vet_base.specs.CriteriaSet.{Places}
use Rattle.vet_masks.specs.Masks.{AreWaiting, AreWaitingBut, reached}

pub popped : (from : ℕ) (held passed : List Places) (old new : List ℕ) → old ≡ new ++ from ∷ []
    → AreWaiting held passed old → AreWaitingBut from held passed new
popped from held passed old new e h n c a b other = elim (Contains-push_cases new from n (rw e at (h n c a b))) [
  | inl there ↦ there
  | inr same ↦ absurd (other (sym same))
]

pub still-within : (from m : ℕ) (old new : List ℕ) → old ≡ new ++ from ∷ [] → All (λ n. n < m) old
    → All (λ n. n < m) new
still-within from m old new e h k d l =
    rw (get_or_append_left new (from ∷ []) d k l) at ((rw e at h) k d (omega (arith, l, length-append new (from ∷ []))))

-- where none waits, all was passed on
pub all-passed : (held passed : List Places) (old : List ℕ) → length old ≡ 0 → AreWaiting held passed old
    → (c n : ℕ) → reached held c n ≡ true → reached passed c n ≡ true
all-passed held passed old e h c n a = elim (true_or_false (reached passed c n)) [
  | inl there ↦ there
  | inr none ↦ (let at = h n c a none in absurd (omega (arith, at.1, e)))
]
