-- Where the entry of a number stands among entries whose numbers rise.
use Rattle.std.proofs.Common.{◌≡◌, ℕ, ◌<◌, ◌≤◌, true, false, eqb, List, length, get_or, [], ◌∷◌, Some, None, refl}
use Rattle.std.proofs.Common.{arith, inl, inr}
use Rattle.std.specs.List.{position_or_len}
use Rattle.std.specs.List.Sorted.{IsPartitionPoint, IsNonDecreasingBy}
use Rattle.std.specs.Ordering.{nat_cmp, ordering_index}
use Rattle.std.specs.declared.cmp.Ordering.{Ordering}
use Rattle.std.specs.declared.cmp.Ordering.TheVariants.{Less, Equal, Greater}
use Rattle.std.proofs.lemmas.Bool.{cases_lt, lt-ltb, le-ltb}
use Rattle.std.proofs.lemmas.Bool.Decides.{eqb_tells}
use Rattle.std.proofs.lemmas.Cmp.{ranked}
use Rattle.std.proofs.lemmas.List.Sums.{position_or_len_is}
use Rattle.vet_entries.specs.declared.facts.HeldEntry.{HeldEntry}
use Rattle.vet_entries.specs.Numbered.{AreByNumber, has_number, place_of}

same : (a n : ℕ) → a ≡ n → eqb a n ≡ true
same a n h = elim (eqb_tells a n) [ inl is ↦ is.0 | inr other ↦ absurd (other.1 h) ]

differs : (a n : ℕ) → (a ≡ n → ⊥) → eqb a n ≡ false
differs a n h = elim (eqb_tells a n) [ inl is ↦ absurd (h is.1) | inr other ↦ other.0 ]

-- what an ordering of two numbers says
at_less : (a n : ℕ) (r : Ordering) → r ≡ nat_cmp a n → r ≡ Less → a < n
at_less a n Less h e = ranked a n Less h
at_less a n Equal h e = cc e
at_less a n Greater h e = cc e

at_equal : (a n : ℕ) (r : Ordering) → r ≡ nat_cmp a n → r ≡ Equal → a ≡ n
at_equal a n Less h e = cc e
at_equal a n Equal h e = ranked a n Equal h
at_equal a n Greater h e = cc e

at_greater : (a n : ℕ) (r : Ordering) → r ≡ nat_cmp a n → r ≡ Greater → n < a
at_greater a n Less h e = cc e
at_greater a n Equal h e = cc e
at_greater a n Greater h e = ranked a n Greater h

-- numbers that rise are searched in order
index_rises : (a b n : ℕ) (r s : Ordering) → r ≡ nat_cmp a n → s ≡ nat_cmp b n → a ≤ b
    → ordering_index r ≤ ordering_index s
index_rises a b n Less s h g le = omega arith
index_rises a b n Equal Less h g le =
    (let x = ranked a n Equal h in let y = ranked b n Less g in absurd (omega (arith, x, y, le)))
index_rises a b n Equal Equal h g le = omega arith
index_rises a b n Equal Greater h g le = omega arith
index_rises a b n Greater Less h g le =
    (let x = ranked a n Greater h in let y = ranked b n Less g in absurd (omega (arith, x, y, le)))
index_rises a b n Greater Equal h g le =
    (let x = ranked a n Greater h in let y = ranked b n Equal g in absurd (omega (arith, x, y, le)))
index_rises a b n Greater Greater h g le = omega arith

rises : (entries : List HeldEntry) (n : ℕ) → AreByNumber entries
    → IsNonDecreasingBy (λ (h : HeldEntry). ordering_index (nat_cmp h.number n)) entries
rises entries n up i j d le l = elim (cases_lt i j) [
  | inl before ↦ (let lower = up i j d before l in index_rises _ _ n _ _ refl refl (omega (arith, lower)))
  | inr not_before ↦ (let at : i ≡ j = omega (arith, le, not_before) in rw at (omega arith))
]

-- the place that a search finds is that of the number, and where it finds none, none is
pub found_place : (entries : List HeldEntry) (n i : ℕ) → AreByNumber entries → i < length entries
    → ((d : HeldEntry) → nat_cmp (get_or entries i d).number n ≡ Equal)
    → place_of entries n ≡ Some i
found_place [] n i up within at = absurd (omega (arith, within))
found_place (x ∷ rest) n i up within at =
    let entries : List HeldEntry = x ∷ rest in
    let here : (d : HeldEntry) → (get_or entries i d).number ≡ n = λ d. at_equal _ n _ refl (at d) in
    let first : position_or_len (has_number n) entries ≡ i = position_or_len_is (has_number n) entries i x
    (omega (arith, within))
    (λ k l. differs _ n (λ e. (let lower = up k i x l within in absurd (omega (arith, lower, here x, e)))))
    (λ l. same _ n (here x)) in
    rw (first, lt-ltb i (length entries) within) refl

pub no_place : (entries : List HeldEntry) (n i : ℕ) → AreByNumber entries
    → (IsNonDecreasingBy (λ (h : HeldEntry). ordering_index (nat_cmp h.number n)) entries
    → IsPartitionPoint (λ (h : HeldEntry). nat_cmp h.number n ≡ Less)
    (λ (h : HeldEntry). nat_cmp h.number n ≡ Greater) entries i)
    → place_of entries n ≡ None
no_place [] n i up parts = refl
no_place (x ∷ rest) n i up parts =
    let entries : List HeldEntry = x ∷ rest in
    let p = parts (rises entries n up) in
    let none : position_or_len (has_number n) entries ≡ length entries = position_or_len_is (has_number n) entries
    (length entries) x (omega arith)
    (λ k l. differs _ n (λ e. elim (cases_lt k i) [
      | inl front ↦ (let lower = at_less _ n _ refl (p.0 k x (omega arith) front) in omega (arith, lower, e))
      | inr back ↦ (let higher = at_greater _ n _ refl (p.1 k x back l) in omega (arith, higher, e))
    ]))
    (λ l. absurd (omega (arith, l))) in
    rw (none, le-ltb (length entries) (length entries) (omega arith)) refl
