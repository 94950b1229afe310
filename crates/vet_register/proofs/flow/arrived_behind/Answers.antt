use Rattle.std.proofs.Common.{arith}
use Rattle.vet_register.proofs.Flows.{arrived-fits, arrived-more}
use Rattle.vet_register.proofs.flow.arrived_behind.Goals as goal

pub overflow_add-result : goal.overflow_add-result
overflow_add-result c = omega (
  arith,
  c.of.ensures,
  c.arrivals_at.ensures,
  arrived-fits c.runs_of_moves_add.ensures.arrivals c.args.class c.args.arrived c.args.more.now c.requires.0
      c.requires.1 c.requires.2,
)

pub returns : goal.returns
returns c moves is = omega (
  arith,
  c.of.ensures,
  c.arrivals_at.ensures,
  arrived-more c.runs_of_moves_add.ensures.arrivals c.args.class c.args.arrived c.args.more.now moves is,
)
