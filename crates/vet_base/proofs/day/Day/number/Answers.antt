use Rattle.std.proofs.Common.{arith}
use Rattle.std.proofs.lemmas.Int.{ints}
use Rattle.vet_base.proofs.DayLemmas.{day_number_range}
use Rattle.vet_base.proofs.day.Day.number.Goals as goal

pub returns-clause-range : goal.returns-clause-range
returns-clause-range c =
    let range = day_number_range c.args.self c.date.ensures.day in
    omega (arith, ints)
