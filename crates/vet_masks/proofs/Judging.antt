-- Sets by the numbers of versions, as one version after the other is judged.
use Rattle.std.proofs.Common.{◌≡◌, ◌⊎◌, ◌<◌, ◌∷◌, ℕ, List, Some, get_or, length, set as setn, sym, ap, subst, ◌∙◌, inl}
use Rattle.std.proofs.Common.{inr}
use Rattle.std.specs.FinSet as set
use Rattle.std.specs.List.{Contains}
use Rattle.std.proofs.lemmas.Bool.{cases_eq}
use Rattle.std.proofs.lemmas.List.{get_or-set_same, get_or-set_other}
use Rattle.vet_base.proofs.ListLemmas.{Contains-cons_cases}
use Rattle.vet_base.specs.CriteriaSet.{has, Places}
use Rattle.vet_base.specs.Version.{VersionValue}
use Rattle.vet_graph.specs.Chain.{Condemned}
use Rattle.vet_masks.specs.Index.{IsNumbering, Numbers}

-- the set of a version is what it is condemned for
abbrev pub IsJudgedAt : Condemned → List Places → VersionValue → ℕ → Type 0
IsJudgedAt condemned sets v n = (c : ℕ) → has c (get_or sets n set.empty) ≡ condemned c v

-- each version is judged, or is still to come
abbrev pub AreJudgedBut : Numbers → Condemned → List Places → List (VersionValue × ℕ) → Type 0
AreJudgedBut numbers condemned sets rest = (v : VersionValue) (n : ℕ) → numbers v ≡ Some n
    → IsJudgedAt condemned sets v n ⊎ Contains rest (v, n)

module _ (numbers : Numbers) (m : ℕ) (numbering : IsNumbering numbers m) (condemned : Condemned) (sets : List Places)
    (v : VersionValue) (n : ℕ) (known : numbers v ≡ Some n) (rest : List (VersionValue × ℕ))
    (so_far : AreJudgedBut numbers condemned sets ((v, n) ∷ rest)) where
  -- the next version is judged
  pub judged-next : n < length sets → (s : Places) → ((c : ℕ) → has c s ≡ condemned c v)
      → AreJudgedBut numbers condemned (setn sets n s) rest
  judged-next low s is w k e = elim (cases_eq k n) [
    | inl same ↦ inl (λ c. ap (has c) (ap (λ j. get_or (setn sets n s) j set.empty) same
        ∙ get_or-set_same sets n s set.empty low) ∙ is c
        ∙ ap (condemned c) (numbering.apart v w n known (e ∙ ap (λ (j : ℕ). Some j) same)))
    | inr other ↦ elim (so_far w k e) [
      | inl done ↦ inl (λ c. ap (has c) (get_or-set_other sets n k s set.empty other) ∙ done c)
      | inr there ↦ elim (Contains-cons_cases (v, n) rest (w, k) there) [
        | inl here ↦ absurd (other (sym (ap (λ (p : VersionValue × ℕ). p.1) here)))
        | inr later ↦ inr later
      ]
    ]
  ]

  -- it was judged before
  pub judged-kept : IsJudgedAt condemned sets v n → AreJudgedBut numbers condemned sets rest
  judged-kept at w k e = elim (so_far w k e) [
    | inl done ↦ inl done
    | inr there ↦ elim (Contains-cons_cases (v, n) rest (w, k) there) [
      | inl here ↦ inl (subst (λ (p : VersionValue × ℕ). IsJudgedAt condemned sets p.0 p.1) here at)
      | inr later ↦ inr later
    ]
  ]
