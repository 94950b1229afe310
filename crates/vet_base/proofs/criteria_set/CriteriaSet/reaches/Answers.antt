use Rattle.vet_base.specs.declared.limits.TheConstants.{MOST_CRITERIA as most}
use Rattle.std.proofs.Common.{◌≡◌, ℕ, ◌<◌, ◌*◌, ◌/◌, ◌^◌, ◌==◌, false, not, ap, sym, ◌∙◌, arith, inl, inr}
use Rattle.std.proofs.lemmas.Bool.{cases_eq, false≢true, ne_eqb}
use Rattle.std.proofs.lemmas.Nat.{mod_below, pow_pos}
use Rattle.std.proofs.lemmas.Nat.Bits.{bit_at_above}
use Rattle.vet_base.proofs.Bits.{tells}
use Rattle.vet_base.proofs.criteria_set.CriteriaSet.reaches.Goals as goal

-- a word of which nothing is left when it is shifted down
below_place : (word place : ℕ) → not (word / 2 ^ place == 0) ≡ false → word < 2 ^ place
below_place word place none =
    elim (cases_eq (word / 2 ^ place) 0) [
      | inl zero ↦ omega
          (arith, mod_below word (2 ^ place) (pow_pos place), pow_pos place, ap (λ high. high * 2 ^ place) zero)
      | inr other ↦ absurd (false≢true (sym none ∙ ap not (ne_eqb (word / 2 ^ place) 0 other)))
    ]

pub returns-then-place-lt-MOST_CRITERIA-clause-none : goal.returns-then-place-lt-MOST_CRITERIA-clause-none
returns-then-place-lt-MOST_CRITERIA-clause-none c none p high =
    tells most c.self.inside.word c.args.self.now c.self.invariant c.self.view_is p
    ∙ ap (λ bit. bit == 1) (bit_at_above c.self.inside.word c.args.place p
    (below_place c.self.inside.word c.args.place none) high)

pub returns-else-place-lt-MOST_CRITERIA-clause-none : goal.returns-else-place-lt-MOST_CRITERIA-clause-none
returns-else-place-lt-MOST_CRITERIA-clause-none c past p high =
    tells most c.self.inside.word c.args.self.now c.self.invariant c.self.view_is p
    ∙ ap (λ bit. bit == 1) (bit_at_above c.self.inside.word most p c.self.invariant
    (omega (arith, high, c.if-place-lt-MOST_CRITERIA.false)))
