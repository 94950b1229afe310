-- Words and their bits.
use Rattle.std.proofs.Common.{◌≡◌, ℕ, zero, suc, ◌<◌, ◌^◌, ◌-◌, ◌==◌, true, ◌||◌, ◌&&◌, not, min, max}
use Rattle.std.proofs.Common.{refl, sym, ap, ◌∙◌, arith, inl, inr, eq-eqb}
use Rattle.std.specs.Ordering.{nat_cmp}
use Rattle.std.specs.FinSet as set
use Rattle.std.specs.FinSet.{FinSet}
use Rattle.std.specs.Int.{bit_at, bit_not, trailing_zeros}
use Rattle.std.specs.Int.RustNames.{bit_or}
use lib.Bits.{bit_and}
use Rattle.std.proofs.lemmas.Bool.{cases_lt, cases_eq, ne_eqb, false≢true}
use Rattle.std.proofs.lemmas.Nat.{and_le_l}
use Rattle.std.proofs.lemmas.Nat.Bits.{bit_at-lt, bit_at_above, bit_at_and, bit_at_or, bit_at_not, bit_at-zero}
use Rattle.std.proofs.lemmas.Nat.Bits.{bit_at-trailing_zeros}
use Rattle.vet_base.specs.declared.limits.TheConstants.{MOST_CRITERIA as most}
use Rattle.vet_base.specs.CriteriaSet.{set_places}
use Rattle.vet_base.specs.CriteriaSetLaws.{contains-set_places, same_places}
use Rattle.vet_base.specs.Width.{width}

both_ones : (a b : ℕ) → a < 2 → b < 2 → (min a b == 1) ≡ ((a == 1) && (b == 1))
both_ones zero zero l m = refl
both_ones zero (suc zero) l m = refl
both_ones (suc zero) zero l m = refl
both_ones (suc zero) (suc zero) l m = refl
both_ones (suc (suc a)) b l m = absurd (omega arith)
both_ones zero (suc (suc b)) l m = absurd (omega arith)
both_ones (suc zero) (suc (suc b)) l m = absurd (omega arith)

either_one : (a b : ℕ) → a < 2 → b < 2 → (max a b == 1) ≡ ((a == 1) || (b == 1))
either_one zero zero l m = refl
either_one zero (suc zero) l m = refl
either_one (suc zero) zero l m = refl
either_one (suc zero) (suc zero) l m = refl
either_one (suc (suc a)) b l m = absurd (omega arith)
either_one zero (suc (suc b)) l m = absurd (omega arith)
either_one (suc zero) (suc (suc b)) l m = absurd (omega arith)

other_one : (a : ℕ) → a < 2 → (1 - a == 1) ≡ not (a == 1)
other_one zero l = refl
other_one (suc zero) l = refl
other_one (suc (suc a)) l = absurd (omega arith)

module _ (n word : ℕ) (s : FinSet nat_cmp) (l : word < 2 ^ n) (e : set_places n word ≡ s) where
  -- a place is in the set just where its bit is set
  pub tells : (q : ℕ) → set.contains s q ≡ (bit_at word q == 1)
  tells q = ap (λ t. set.contains t q) (sym e) ∙ contains-set_places n word q l

-- a set by its bits
pub is_set : (n word : ℕ) (s : FinSet nat_cmp) → word < 2 ^ n
    → ((q : ℕ) → (bit_at word q == 1) ≡ set.contains s q) → set_places n word ≡ s
is_set n word s l each = same_places _ _ (λ q. contains-set_places n word q l ∙ each q)

pub none : (n : ℕ) → 0 < 2 ^ n → set_places n 0 ≡ set.empty
none n l = is_set n 0 set.empty l (λ q. ap (λ b. b == 1) (bit_at-zero q) ∙ sym (set.contains-empty nat_cmp q))

pub and_bits : (a b q : ℕ) → (bit_at (bit_and a b) q == 1) ≡ ((bit_at a q == 1) && (bit_at b q == 1))
and_bits a b q = ap (λ x. x == 1) (bit_at_and a b q) ∙ both_ones _ _ (bit_at-lt a q) (bit_at-lt b q)

pub or_bits : (a b q : ℕ) → (bit_at (bit_or a b) q == 1) ≡ ((bit_at a q == 1) || (bit_at b q == 1))
or_bits a b q = ap (λ x. x == 1) (bit_at_or a b q) ∙ either_one _ _ (bit_at-lt a q) (bit_at-lt b q)

pub not_bits : (a q : ℕ) → a < 2 ^ most → q < most
    → (bit_at (bit_not width a) q == 1) ≡ not (bit_at a q == 1)
not_bits a q l m = ap (λ x. x == 1) (bit_at_not width a q l m) ∙ other_one _ (bit_at-lt a q)

pub less_bits : (a b q : ℕ) → a < 2 ^ most → b < 2 ^ most
    → (bit_at (bit_and a (bit_not width b)) q == 1) ≡ ((bit_at a q == 1) && not (bit_at b q == 1))
less_bits a b q l m = and_bits a (bit_not width b) q ∙ elim (cases_lt q most) [
  | inl low ↦ ap (λ x. (bit_at a q == 1) && x) (not_bits b q m low)
  | inr high ↦ rw (bit_at_above a most q l high) refl
]

-- what is left of a word fits as the word does
pub fits : (a b : ℕ) → a < 2 ^ most → bit_and a b < 2 ^ most
fits a b l = omega (arith, and_le_l a b, l)

-- a word that is not 0 has a bit, below the width
pub some_bit : (word : ℕ) → word < 2 ^ most → not (word == 0) ≡ true
    → (q : ℕ) × (q < most) × ((bit_at word q == 1) ≡ true)
some_bit word l h = elim (cases_eq word 0) [
  | inl none ↦ absurd (false≢true (ap not (sym (eq-eqb word 0 none)) ∙ h))
  | inr other ↦ (let lowest = bit_at-trailing_zeros width word (omega (arith, other)) l in
      (trailing_zeros width word, lowest.0, eq-eqb _ 1 lowest.1))
]

-- a word with a bit is not 0
pub has_bit : (word q : ℕ) → (bit_at word q == 1) ≡ true → not (word == 0) ≡ true
has_bit word q h = elim (cases_eq word 0) [
  | inl none ↦ absurd (false≢true (ap (λ b. b == 1) (sym (bit_at-zero q)) ∙ ap (λ w. bit_at w q == 1) (sym none) ∙ h))
  | inr other ↦ ap not (ne_eqb word 0 other)
]
