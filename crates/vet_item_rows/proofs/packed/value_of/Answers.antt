use Rattle.std.proofs.Common.{arith}
use Rattle.vet_item_rows.proofs.Packing.{digit_from, digit_to, length_is_short, value_fits, value_step}
use Rattle.vet_item_rows.proofs.packed.value_of.Goals as goal

pub overflow_mul-value : goal.overflow_mul-value
overflow_mul-value c =
    let few = length_is_short c.args.digits.now c.requires.length in
    let fits = value_fits c.digits.place c.digits.value (omega (arith, few, c.digits-test.true)) c.digits.invariant.1 in
    omega (arith, fits)

pub overflow_sub-digits : goal.overflow_sub-digits
overflow_sub-digits c = digit_from c.args.digits.now c.digits.place c.requires.digits c.digits-test.true

pub overflow_add-value : goal.overflow_add-value
overflow_add-value c =
    let few = length_is_short c.args.digits.now c.requires.length in
    let fits = value_fits c.digits.place c.digits.value (omega (arith, few, c.digits-test.true)) c.digits.invariant.1 in
    let to = digit_to c.args.digits.now c.digits.place c.requires.digits c.digits-test.true in
    omega (arith, fits, to, c.from.ensures)

pub digits-preserved : goal.digits-preserved
digits-preserved c =
    value_step c.args.digits.now c.digits.place c.digits.value c.from.result c.requires.digits c.digits-test.true
    c.digits.invariant c.from.ensures
