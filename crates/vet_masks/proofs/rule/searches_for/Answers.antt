use Rattle.std.proofs.Common.{◌<◌, arith}
use Rattle.vet_masks.proofs.Digits.{digits-enough, digits-few}
use Rattle.vet_masks.proofs.rule.searches_for.Goals as goal

pub returns-clause-enough : goal.returns-clause-enough
returns-clause-enough c =
    let more : 1 < c.args.count = omega (arith, c.if-count-eq0.false, c.if-count-eq1.false) in
    digits-enough c.args.count c.digits_of.result more c.digits_of.ensures.enough

pub returns-clause-few : goal.returns-clause-few
returns-clause-few c =
    let more : 1 < c.args.count = omega (arith, c.if-count-eq0.false, c.if-count-eq1.false) in
    digits-few c.args.count c.digits_of.result more c.digits_of.ensures.least
