-- Flags for the versions of steps, by their numbers.
use Rattle.std.proofs.Common.{◌≡◌, ◌≢◌, ◌<◌, ◌&&◌, ℕ, Bool, true, false, not, Some, None, get_or, replicate}
use Rattle.std.proofs.Common.{set as setn, refl, sym, ap, ◌∙◌, inl, inr}
use Rattle.std.proofs.lemmas.Bool.{cases_Bool, cases_eq}
use Rattle.std.proofs.lemmas.List.{get_or_default, get_or-set_same, get_or-set_other, length-replicate}
use Rattle.vet_base.proofs.ListLemmas.{all_alike}
use Rattle.vet_base.specs.Version.{VersionValue}
use Rattle.vet_base.specs.VersionOrder.{version_eq}
use Rattle.vet_base.specs.VersionOrderLaws.{version_eq-Decides}
use Rattle.vet_masks.specs.Index.{IsNumbering, Numbers}

pub other-version : (v w : VersionValue) → v ≢ w → version_eq v w ≡ false
other-version v w d = elim (cases_Bool (version_eq v w)) [
  | inl tied ↦ absurd (d ((version_eq-Decides v w).0 tied))
  | inr other ↦ other
]

module _ (numbers : Numbers) (m : ℕ) (numbering : IsNumbering numbers m) (w : VersionValue) where
  -- where one version alone has its flag set
  pub flag-put : (k : ℕ) → numbers w ≡ Some k → (v : VersionValue) (n : ℕ) → numbers v ≡ Some n
      → get_or (setn (replicate m false) k true) n false ≡ version_eq v w
  flag-put k known v n e = elim (cases_eq n k) [
    | inl same ↦ (let is : v ≡ w = numbering.apart v w k (e ∙ ap (λ (j : ℕ). Some j) same) known in
        rw same (get_or-set_same (replicate m false) k true false
        (rw length-replicate (numbering.below w k known)))
        ∙ sym ((version_eq-Decides v w).1 is))
    | inr other ↦ get_or-set_other (replicate m false) k n true false other ∙ all_alike false m n
        ∙ sym (other-version v w (λ q. other (cc (sym e ∙ ap numbers q ∙ known))))
  ]

  -- where that version has no number
  pub flag-none : numbers w ≡ None → (v : VersionValue) (n : ℕ) → numbers v ≡ Some n
      → get_or (replicate m false) n false ≡ version_eq v w
  flag-none none v n e = all_alike false m n
      ∙ sym (other-version v w (λ q. (let p : None ≡ Some n = sym none ∙ ap numbers (sym q) ∙ e in cc p)))

-- no step is skipped
pub takes-all : (exempt : Bool) (m n : ℕ) → not (exempt && get_or (replicate m false) n false) ≡ true
takes-all true m n = ap not (all_alike false m n)
takes-all false m n = refl

-- the exempt ones are
pub takes-reviewed : (exempt : Bool) (m n : ℕ) → n < m
    → not (exempt && get_or (replicate m true) n false) ≡ not exempt
takes-reviewed true m n l = ap not (get_or_default (replicate m true) n false true (rw length-replicate l)
    ∙ all_alike true m n)
takes-reviewed false m n l = refl
