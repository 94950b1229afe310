-- Sets of places, and the words that hold them (ours).
use Rattle.std.proofs.Common.{◌≡◌, ℕ, zero, suc, ◌<◌, ◌^◌, ◌*◌, ◌%◌, ◌+◌, Bool, false, ◌||◌, ◌&&◌, cond}
use Rattle.std.proofs.Common.{nat_lt, ◌==◌, Equal, refl, sym, ap, ◌∙◌, arith, inl, inr, lt-ltb, eq-eqb}
use Rattle.std.specs.Ordering.{nat_cmp}
use Rattle.std.specs.FinSet as set
use Rattle.std.specs.FinSet.{FinSet, nat_cmp-IsAntisymmetric}
use Rattle.std.specs.Cmp.{nat_cmp_total, unsigned_tied}
use Rattle.std.specs.Int.{bit_at}
use Rattle.std.proofs.lemmas.Bool.{cases_lt, cases_eq, cases_order, ne_eqb, le-ltb, and_right}
use Rattle.std.proofs.lemmas.Nat.{mod-pow-add}
use Rattle.std.proofs.Math.Nat.{mod-one, mod-eq_of_lt}
use Rattle.std.proofs.lemmas.Nat.Bits.{bit_at-lt, bit_at_above}
use Rattle.vet_base.specs.CriteriaSet.{places_below, set_places, word_below}

below_zero : (q : ℕ) → false ≡ nat_lt q zero
below_zero q = sym (le-ltb q 0 (omega arith))

below_more : (q n : ℕ) → ((q == n) || nat_lt q n) ≡ nat_lt q (suc n)
below_more q n = elim (cases_order q n) [
  | inl same ↦ rw (eq-eqb q n same, lt-ltb q (suc n) (omega arith)) refl
  | inr (inl low) ↦ rw (lt-ltb q n low, lt-ltb q (suc n) (omega arith), ne_eqb q n (λ e. omega (arith, e, low))) refl
  | inr (inr high) ↦ rw (ne_eqb q n (λ e. omega (arith, e)), le-ltb q n (omega arith), le-ltb q (suc n) (omega arith))
      refl
]

pub contains-places_below : (n q : ℕ) → set.contains (places_below n) q ≡ nat_lt q n
unfolding places_below
contains-places_below zero q = set.contains-empty nat_cmp q ∙ below_zero q
contains-places_below (suc n) q =
    set.contains-insert nat_cmp_total (places_below n) n q ∙ (λ i. unsigned_tied q n i || contains-places_below n q i)
    ∙ below_more q n

pub same_nat : (f : ℕ → Bool) (q x : ℕ) → nat_cmp q x ≡ Equal → f x ≡ f q
same_nat f q x t = ap f (sym (nat_cmp-IsAntisymmetric q x t))

pub same_places : (a b : FinSet nat_cmp) → ((q : ℕ) → set.contains a q ≡ set.contains b q) → a ≡ b
same_places = set.same_set nat_cmp_total nat_cmp-IsAntisymmetric

-- a place is among those of a word exactly if its bit is set
pub contains-set_places : (n word q : ℕ) → word < 2 ^ n → set.contains (set_places n word) q ≡ (bit_at word q == 1)
contains-set_places n word q l =
    set.contains-retain (places_below n) (λ p. bit_at word p == 1) q (same_nat (λ p. bit_at word p == 1) q)
    ∙ ap (λ b. b && (bit_at word q == 1)) (contains-places_below n q)
    ∙ elim (cases_lt q n) [
      | inl low ↦ ap (λ b. b && (bit_at word q == 1)) (lt-ltb q n low)
      | inr high ↦ rw (bit_at_above word n q l high) (and_right (nat_lt q n) false refl)
    ]

-- the value that a bit adds
bit_part : (word q : ℕ) → cond (bit_at word q == 1) (2 ^ q) 0 ≡ bit_at word q * 2 ^ q
bit_part word q = elim (cases_eq (bit_at word q) 1) [
  | inl one ↦ rw (one) (omega arith)
  | inr other ↦ rw (ne_eqb (bit_at word q) 1 other, none_is_zero word q other) (omega arith)
]
  where
    none_is_zero : (word q : ℕ) → ((bit_at word q ≡ 1) → ⊥) → bit_at word q ≡ 0
    none_is_zero word q other = omega (arith, bit_at-lt word q, other)

word_of_bits : (n word : ℕ) (places : FinSet nat_cmp)
    → ((q : ℕ) → q < n → set.contains places q ≡ (bit_at word q == 1)) → word_below n places ≡ word % 2 ^ n
unfolding word_below
word_of_bits zero word places each = sym (mod-one word)
word_of_bits (suc n) word places each =
    (λ i. word_of_bits n word places (λ q l. each q (omega (arith, l))) i
    + cond (each n (omega arith) i) (2 ^ n) 0)
    ∙ ap (λ x. word % 2 ^ n + x) (bit_part word n)
    ∙ swapped (word % 2 ^ n) (bit_at word n * 2 ^ n)
    ∙ sym (mod-pow-add word 1 n)
    ∙ ap (λ m. word % 2 ^ m) (one_more n)
  where
    swapped : (a b : ℕ) → a + b ≡ b + a
    swapped a b = omega arith

    one_more : (n : ℕ) → 1 + n ≡ suc n
    one_more n = omega arith

-- the word of a word's places is that word
pub same_word : (n word : ℕ) → word < 2 ^ n → word_below n (set_places n word) ≡ word
same_word n word l =
    word_of_bits n word (set_places n word) (λ q _. contains-set_places n word q l) ∙ mod-eq_of_lt l
