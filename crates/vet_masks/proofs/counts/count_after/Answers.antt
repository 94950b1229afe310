use Rattle.std.proofs.Common.{arith}
use Rattle.vet_masks.proofs.Counting.{count-after, count-most}
use Rattle.vet_masks.proofs.counts.count_after.Goals as goal

pub overflow_sub-result : goal.overflow_sub-result
overflow_sub-result c = omega (
  arith,
  count-after c.moves_balance.ensures c.args.class c.args.counts c.args.moves.now c.requires.0 c.requires.1 c.requires.2
      c.requires.3,
  c.of.ensures,
  c.arrivals.ensures,
  c.departures.ensures,
)

pub overflow_cast-result-2 : goal.overflow_cast-result-2
overflow_cast-result-2 c = omega (
  arith,
  count-after c.moves_balance.ensures c.args.class c.args.counts c.args.moves.now c.requires.0 c.requires.1 c.requires.2
      c.requires.3,
  c.of.ensures,
  c.arrivals.ensures,
  c.departures.ensures,
  count-most c.args.class c.requires.1,
  c.requires.4,
)

pub returns : goal.returns
returns c before after e m = omega (
  arith,
  count-after c.moves_balance.ensures c.args.class c.args.counts c.args.moves.now before after e m,
  c.of.ensures,
  c.arrivals.ensures,
  c.departures.ensures,
)
