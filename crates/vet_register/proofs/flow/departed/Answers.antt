use Rattle.std.proofs.Common.{arith}
use Rattle.vet_register.proofs.Flows.{departed-are, departed-fit}
use Rattle.vet_register.proofs.flow.departed.Goals as goal

pub overflow_sub-result : goal.overflow_sub-result
overflow_sub-result c = omega (
  arith,
  c.of.ensures,
  c.of-2.ensures,
  c.of-3.ensures,
  departed-are c.args.class c.args.first c.args.arrived c.args.present c.requires.0 c.requires.1 c.requires.2,
)

pub overflow_cast-result : goal.overflow_cast-result
overflow_cast-result c = omega (
  arith,
  c.of.ensures,
  c.of-2.ensures,
  c.of-3.ensures,
  departed-are c.args.class c.args.first c.args.arrived c.args.present c.requires.0 c.requires.1 c.requires.2,
  departed-fit c.args.class c.requires.0,
  c.requires.3,
)

pub returns : goal.returns
returns c moves is balanced = omega (
  arith,
  c.of.ensures,
  c.of-2.ensures,
  c.of-3.ensures,
  departed-are c.args.class c.args.first c.args.arrived c.args.present moves is balanced,
)
