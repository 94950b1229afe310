-- Numbers that differ have a digit at which they do.
use Rattle.std.proofs.Common.{◌≡◌, ◌≢◌, ◌⊎◌, ◌+◌, ◌*◌, ◌-◌, ◌^◌, ◌<◌, ◌≤◌, ℕ, zero, suc, true, false, not}
use Rattle.std.proofs.Common.{Some, refl, ap, ◌∙◌, arith, inl, inr, eq-eqb}
use Rattle.std.specs.Int.{bit_at}
use Rattle.std.proofs.lemmas.Bool.{cases_eq, cases_lt, ne_eqb}
use Rattle.std.proofs.Math.Nat.{pow-suc}
use Rattle.std.proofs.lemmas.Nat.{div-mul-add, mod-mul-add, pow_below}
use Rattle.std.proofs.lemmas.Nat.Bits.{bit_at-lt, same_from_bits_below}
use Rattle.vet_masks.specs.declared.rule.Rule.TheVariants.{With}
use Rattle.vet_masks.specs.Rules.{AreEnough, rule_of, skips}

first_apart : (w : ℕ) (f g : ℕ → ℕ) → ((i : ℕ) × (i < w) × (f i ≢ g i)) ⊎ ((i : ℕ) → i < w → f i ≡ g i)
first_apart zero f g = inr (λ i l. absurd (omega arith))
first_apart (suc w) f g = elim (cases_eq (f w) (g w)) [
  | inr apart ↦ inl (w, omega arith, apart)
  | inl same ↦ elim (first_apart w f g) [
    | inl at ↦ inl (at.0, omega (arith, at.1), at.2)
    | inr all ↦ inr (λ i l. elim (cases_eq i w) [
      | inl last ↦ rw last same
      | inr other ↦ all i (omega (arith, other))
    ])
  ]
]

pub digit-apart : (w a b : ℕ) → a < 2 ^ w → b < 2 ^ w → a ≢ b → (i : ℕ) × (i < w) × (bit_at a i ≢ bit_at b i)
digit-apart w a b l m d = elim (first_apart w (bit_at a) (bit_at b)) [
  | inl at ↦ at
  | inr all ↦ absurd (d (same_from_bits_below w a b l m all))
]

-- the place of the search that takes the exempt steps to numbers with a digit
rule-at : (p b : ℕ) → b < 2 → rule_of (suc (p * 2 + b)) ≡ With (record { place = p; value = b })
rule-at p b l = λ i. With (record { place = div-mul-add p 2 b l i; value = mod-mul-add p 2 b l i })

-- it takes those to a number by the number's own digit
takes-own : (n p : ℕ) → skips (rule_of (suc (p * 2 + bit_at n p))) (Some n) ≡ false
takes-own n p = ap (λ r. skips r (Some n)) (rule-at p (bit_at n p) (bit_at-lt n p))
    ∙ ap not (eq-eqb (bit_at n p) (bit_at n p) refl)

-- and skips those to a number with the other one
skips-other : (m n p : ℕ) → bit_at m p ≢ bit_at n p → skips (rule_of (suc (p * 2 + bit_at n p))) (Some m) ≡ true
skips-other m n p d = ap (λ r. skips r (Some m)) (rule-at p (bit_at n p) (bit_at-lt n p))
    ∙ ap not (ne_eqb (bit_at m p) (bit_at n p) d)

pub none-enough : AreEnough 0 1
none-enough = record {
  some = omega arith;
  each = λ n l. absurd (omega (arith, l));
  apart = λ m n l k d. absurd (omega (arith, l));
}

pub one-enough : AreEnough 1 2
one-enough = record {
  some = omega arith;
  each = λ n l. (let is : n ≡ 0 = omega (arith, l) in (1, omega arith, rw is refl));
  apart = λ m n l k d. absurd (d (omega (arith, l, k)));
}

pub digits-enough : (count w : ℕ) → 1 < count → count ≤ 2 ^ w → AreEnough count (1 + 2 * w)
digits-enough count w more l = record {
  some = omega arith;
  each = λ n k. (
    suc (0 * 2 + bit_at n 0),
    omega (arith, bit_at-lt n 0, one),
    takes-own n 0,
  );
  apart = λ m n k j d. (let at = digit-apart w m n (omega (arith, k, l)) (omega (arith, j, l)) d in (
    suc (at.0 * 2 + bit_at n at.0),
    omega (arith, bit_at-lt n at.0, at.1),
    skips-other m n at.0 at.2,
    takes-own n at.0,
  ));
}
  where
    one : 1 ≤ w
    one = elim (cases_eq w 0) [
      | inl none ↦ absurd (let small : count ≤ 1 = rw none at l in omega (arith, small, more))
      | inr some ↦ omega (arith, some)
    ]

-- few digits are enough
twice-few : (d : ℕ) → 2 * d ≤ 2 ^ d
twice-few zero = omega arith
twice-few (suc zero) = omega arith
twice-few (suc (suc d)) = omega (arith, twice-few (suc d), pow-suc 2 (suc d))

pub digits-few : (count d : ℕ) → 1 < count → (d ≡ 0) ⊎ (2 ^ (d - 1) < count) → 1 + 2 * d ≤ count + 2
digits-few count d more (inl none) = omega (arith, none)
digits-few count zero more (inr l) = omega arith
digits-few count (suc d) more (inr l) = (let same : suc d - 1 ≡ d = omega arith in
    omega (arith, rw same at l, twice-few d))

-- numbers of 64 bits have no more digits than that
pub digits-below : (n d : ℕ) → 2 ^ d < n → n < 2 ^ 64 → d < 64
digits-below n d l m = elim (cases_lt d 64) [
  | inl low ↦ low
  | inr high ↦ elim (cases_eq d 64) [
    | inl same ↦ absurd (omega (arith, m, rw same at l))
    | inr other ↦ absurd (omega (arith, l, m, pow_below 64 d (omega (arith, high, other))))
  ]
]
