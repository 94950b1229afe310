use Rattle.std.proofs.Common.{arith, sym, ◌∙◌}
use Rattle.vet_item_rows.proofs.Packing.{digit_more}
use Rattle.vet_item_rows.proofs.packed.digits_in_front.Goals as goal

pub digits-preserved : goal.digits-preserved
digits-preserved c = (
  omega (arith, c.digits-test.true),
  digit_more c.args.bytes.now c.digits.place c.digits-test.true c.digits.invariant.1
      (sym c.is_ascii_digit.ensures.value ∙ c.if-is_ascii_digit.true),
)
