use Rattle.vet_base.specs.declared.limits.TheConstants.{MOST_CRITERIA as most}
use Rattle.std.proofs.Common.{◌≡◌, ℕ, sym, ap, ◌∙◌, ◌==◌, false, arith, inl, inr, eqb-true, eq-eqb}
use Rattle.std.specs.Ordering.{nat_cmp}
use Rattle.std.specs.FinSet as set
use Rattle.std.specs.Int.{bit_at}
use Rattle.std.proofs.lemmas.Bool.{cases_eq, false≢true}
use Rattle.std.proofs.lemmas.Nat.Bits.{bit_at-lt, bit_at-zero, same_from_bits}
use Rattle.vet_base.specs.CriteriaSet.{set_places}
use Rattle.vet_base.proofs.Bits.{tells, none}
use Rattle.vet_base.proofs.criteria_set.CriteriaSet.is_empty.Goals as goal

no_bit : (word q : ℕ) → (bit_at word q == 1) ≡ false → bit_at word q ≡ bit_at 0 q
no_bit word q h = elim (cases_eq (bit_at word q) 1) [
  | inl one ↦ absurd (false≢true (sym h ∙ eq-eqb (bit_at word q) 1 one))
  | inr other ↦ omega (arith, bit_at-lt word q, other, bit_at-zero q)
]

pub returns : goal.returns
returns c = (
  λ t. sym c.self.view_is ∙ ap (λ w. set_places most w) (eqb-true c.self.inside.word 0 t) ∙ none most (omega arith),
  λ e. eq-eqb c.self.inside.word 0 (same_from_bits c.self.inside.word 0 (λ q. no_bit c.self.inside.word q
      (sym (tells most c.self.inside.word c.args.self.now c.self.invariant c.self.view_is q)
      ∙ ap (λ s. set.contains s q) e ∙ set.contains-empty nat_cmp q))),
)
