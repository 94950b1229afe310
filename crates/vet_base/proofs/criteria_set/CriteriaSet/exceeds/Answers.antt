use Rattle.vet_base.specs.declared.limits.TheConstants.{MOST_CRITERIA as most}
use Rattle.vet_base.specs.Width.{width}
use Rattle.std.specs.Int.{bit_at, bit_not}
use Rattle.std.proofs.Common.{◌≡◌, ◌&&◌, ◌==◌, Bool, not, true, false, sym, ap, ◌∙◌, inl, inr, refl}
use lib.Bits.{bit_and}
use Rattle.std.proofs.lemmas.Bool.{cases_eq, ne_eqb, false≢true, and_parts, not-true}
use Rattle.std.proofs.lemmas.Nat.Bits.{bit_at-zero}
use Rattle.vet_base.proofs.Bits.{tells, less_bits, fits, some_bit}
use Rattle.vet_base.proofs.criteria_set.CriteriaSet.exceeds.Goals as goal

pub returns-clause-some : goal.returns-clause-some
returns-clause-some c t =
    let a = c.self.inside.word in
    let b = c.other.inside.word in
    let at = some_bit (bit_and a (bit_not width b)) (fits a (bit_not width b) c.self.invariant) t in
    let parts = and_parts (bit_at a at.0 == 1) (not (bit_at b at.0 == 1))
    (sym (less_bits a b at.0 c.self.invariant c.other.invariant) ∙ at.2) in (
      at.0,
      at.1,
      tells most a c.args.self.now c.self.invariant c.self.view_is at.0 ∙ parts.0,
      tells most b c.args.other.now c.other.invariant c.other.view_is at.0 ∙ not-true _ parts.1,
    )

one_or : (x y : Bool) → x ≡ true → (x && not y) ≡ false → y ≡ true
one_or true true e h = refl
one_or true false e h = sym h
one_or false y e h = absurd (false≢true e)

pub returns-clause-none : goal.returns-clause-none
returns-clause-none c t q h =
    let a = c.self.inside.word in
    let b = c.other.inside.word in
    let z : bit_and a (bit_not width b) ≡ 0 = elim (cases_eq (bit_and a (bit_not width b)) 0) [
      | inl none ↦ none
      | inr other ↦ absurd (false≢true (sym t ∙ ap not (ne_eqb _ 0 other)))
    ] in
    tells most b c.args.other.now c.other.invariant c.other.view_is q
    ∙ one_or (bit_at a q == 1) (bit_at b q == 1)
    (sym (tells most a c.args.self.now c.self.invariant c.self.view_is q) ∙ h)
    (sym (less_bits a b q c.self.invariant c.other.invariant)
    ∙ ap (λ w. bit_at w q == 1) z ∙ ap (λ x. x == 1) (bit_at-zero q))
