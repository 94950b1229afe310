use Rattle.std.proofs.Common.{arith}
use Rattle.vet_base.proofs.closures.Closures.lead_on.Goals as goal

pub returns-clause-first : goal.returns-clause-first
returns-clause-first c p low = c.loop-from.invariant.below p (omega (arith, low, c.loop-from-test.false))

pub returns-clause-rest : goal.returns-clause-rest
returns-clause-rest c p high = c.loop-from.invariant.rest p (omega (arith, high, c.loop-from.auto.from-end))
