-- What holds once a step was taken.
use Rattle.std.proofs.Common.{◌≡◌, ◌≢◌, ℕ, ◌<◌, Bool, true, false, ◌&&◌, List, Option, length, get_or}
use Rattle.std.proofs.Common.{◌⊎◌, set as setn, refl, sym, ap, ◌∙◌, inl, inr}
use Rattle.std.specs.List.{Contains}
use Rattle.std.specs.FinSet as set
use Rattle.std.proofs.lemmas.Bool.{cases_eq, false≢true, and_parts}
use Rattle.std.proofs.lemmas.List.{get_or-set_same, get_or-set_other}
use Rattle.vet_base.specs.CriteriaSet.{has, Places}
use Rattle.vet_masks.specs.Masks.{Grows, IsSound, Numbered, Open, Stands, reached}
use Rattle.vet_masks.proofs.Sizes.{has-union_left, has-union_right, has-union_cases}
use Rattle.vet_masks.proofs.Sounds.{sound-more, sound-same}

pub true_or_false : (b : Bool) → (b ≡ true) ⊎ (b ≡ false)
true_or_false true = inl refl
true_or_false false = inr refl

module _ (held : List Places) (t : ℕ) (more : Places) (l : t < length held) where
  -- what is held then
  abbrev then_held : List Places
  then_held = setn held t (set.union (get_or held t set.empty) more)

  other : (c n : ℕ) → n ≢ t → reached then_held c n ≡ reached held c n
  other c n d = ap (has c) (get_or-set_other held t n (set.union (get_or held t set.empty) more) set.empty d)

  here : (c : ℕ) → reached then_held c t ≡ has c (set.union (get_or held t set.empty) more)
  here c = ap (has c) (get_or-set_same held t (set.union (get_or held t set.empty) more) set.empty l)

  pub grows-then : Grows held then_held
  grows-then c n h = elim (cases_eq n t) [
    | inl same ↦ rw same (here c ∙ has-union_left (get_or held t set.empty) more c (rw same at h))
    | inr apart ↦ other c n apart ∙ h
  ]

  pub added-then : (c : ℕ) → has c more ≡ true → reached then_held c t ≡ true
  added-then c h = here c ∙ has-union_right (get_or held t set.empty) more c h

  pub only : (c n : ℕ) → n ≢ t → reached then_held c n ≡ true → reached held c n ≡ true
  only c n d h = sym (other c n d) ∙ h

  same-then : (c n : ℕ) → has c more ≡ false → reached then_held c n ≡ reached held c n
  same-then c n h = elim (cases_eq n t) [
    | inl same ↦ rw same (here c ∙ as_before (true_or_false (reached held c t)))
    | inr apart ↦ other c n apart
  ]
    where
      as_before : (reached held c t ≡ true) ⊎ (reached held c t ≡ false)
          → has c (set.union (get_or held t set.empty) more) ≡ reached held c t
      as_before (inl held_there) = has-union_left (get_or held t set.empty) more c held_there ∙ sym held_there
      as_before (inr not_there) = elim (true_or_false (has c (set.union (get_or held t set.empty) more))) [
        | inl held_there ↦ elim (has-union_cases (get_or held t set.empty) more c held_there) [
          | inl old ↦ absurd (false≢true (sym not_there ∙ old))
          | inr new ↦ absurd (false≢true (sym h ∙ new))
        ]
        | inr none ↦ none ∙ sym not_there
      ]

  pub sound-then : (steps : List Numbered) (open_step : Open) (given : Places) (at : Option ℕ) (s : Numbered)
      → Contains steps s → s.target ≡ t → s.origin ≡ at
      → ((c : ℕ) → has c more ≡ (has c given && open_step c s))
      → ((c : ℕ) → has c given ≡ true → Stands (reached held c) at)
      → ((c : ℕ) → IsSound steps (open_step c) (reached held c))
      → (c : ℕ) → IsSound steps (open_step c) (reached then_held c)
  sound-then steps open_step given at s k e o adds stands sound c = elim (true_or_false (has c more)) [
    | inl held_there ↦ (let parts = and_parts (has c given) (open_step c s) (sym (adds c) ∙ held_there) in
        sound-more steps (open_step c) (reached held c) (reached then_held c) at s (sound c) k parts.1 o
        (stands c parts.0) (grows-then c) (λ n d. only c n (λ q. d (q ∙ sym e))))
    | inr not_there ↦ sound-same steps (open_step c) (reached held c) (reached then_held c) (sound c)
        (λ n. same-then c n not_there)
  ]
