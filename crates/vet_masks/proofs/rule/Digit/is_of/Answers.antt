use Rattle.std.proofs.Common.{◌==◌, sym, ap, ◌∙◌}
use Rattle.std.proofs.lemmas.Nat.Bits.{bit_at_above}
use Rattle.vet_masks.proofs.rule.Digit.is_of.Goals as goal
use Rattle.vet_masks.proofs.rule.Digit.is_of.Goals.{then-self-lt64, else-self-lt64}

pub returns : goal.returns
returns c = ap (λ d. d == c.args.self.now.value) (elim c.if-self-lt64.branch [
  | then-self-lt64 w ↦ w.value-is
  | else-self-lt64 w ↦ w.value-is
      ∙ sym (bit_at_above c.args.number 64 c.args.self.now.place c.ranges.number.fits w.if-self-lt64.false)
])
