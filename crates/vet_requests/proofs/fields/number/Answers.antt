-- So few digits write no larger number than fits.
use Rattle.std.proofs.Common.{rules, arith, ◌≤◌, ◌^◌}
use Rattle.std.proofs.Math.Nat.{pow-le-pow_right}
use Rattle.vet_requests.proofs.fields.number.Goals as goal

pub overflow_mul-total : goal.overflow_mul-total
overflow_mul-total c =
    let short : c.digits.byte-index ≤ 18 = search rules in
    let few : 10 ^ c.digits.byte-index ≤ 10 ^ 18 = pow-le-pow_right (omega arith) {j = 18} short in
    omega (arith, few, c.digits.invariant.short)

pub overflow_add-total : goal.overflow_add-total
overflow_add-total c =
    let short : c.digits.byte-index ≤ 18 = search rules in
    let few : 10 ^ c.digits.byte-index ≤ 10 ^ 18 = pow-le-pow_right (omega arith) {j = 18} short in
    omega (arith, few, c.digits.invariant.short, c.from.ensures)
