use Rattle.vet_base.specs.declared.limits.TheConstants.{MOST_CRITERIA as most}
use Rattle.vet_base.specs.Width.{width}
use Rattle.std.proofs.Common.{◌≡◌, ℕ, sym, ap, ◌∙◌, ◌||◌, ◌==◌, ◌*◌, ◌^◌, ◌%◌, ◌<◌, arith, inl, inr, refl, eq-eqb}
use Rattle.std.specs.FinSet as set
use Rattle.std.specs.Cmp.{nat_cmp_total, unsigned_tied}
use Rattle.std.specs.Int.{bit_at}
use Rattle.std.specs.Int.RustNames.{bit_or}
use Rattle.std.proofs.lemmas.Bool.{cases_eq, ne_eqb}
use Rattle.std.proofs.lemmas.Nat.{or_lt}
use Rattle.std.proofs.lemmas.Nat.Bits.{bit_at_set_same, bit_at_set_other}
use Rattle.vet_base.proofs.Bits.{tells, is_set}
use Rattle.vet_base.proofs.criteria_set.CriteriaSet.with.Goals as goal

stays : (word k : ℕ) → word < 2 ^ most → bit_or word (1 * 2 ^ k % (2 ^ most)) < (2 ^ most)
stays word k l = or_lt most word (1 * 2 ^ k % (2 ^ most)) l (omega arith)

set_bit : (word k q : ℕ) → k < most
    → (bit_at (bit_or word (1 * 2 ^ k % 2 ^ most)) q == 1) ≡ ((q == k) || (bit_at word q == 1))
set_bit word k q l = elim (cases_eq q k) [
  | inl same ↦ rw (same, eq-eqb k k refl, bit_at_set_same width word k l) refl
  | inr other ↦ rw (ne_eqb q k other, bit_at_set_other width word k l q other) refl
]

pub invariant_of-result : goal.invariant_of-result
invariant_of-result c = stays c.self.inside.word c.args.place c.self.invariant

pub returns : goal.returns
returns c = is_set most _ _ (stays c.self.inside.word c.args.place c.self.invariant) (λ q.
    set_bit c.self.inside.word c.args.place q c.requires
    ∙ ap (λ b. (q == c.args.place) || b)
    (sym (tells most c.self.inside.word c.args.self c.self.invariant c.self.view_is q))
    ∙ (λ i. sym (unsigned_tied q c.args.place) i || set.contains c.args.self q)
    ∙ sym (set.contains-insert nat_cmp_total c.args.self c.args.place q))
