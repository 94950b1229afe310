use Rattle.vet_base.proofs.DayLemmas.{bounds, four_places, two_places}
use Rattle.vet_base.proofs.day.DayDisplay.fmt.Goals as goal

pub returns-clause-writes : goal.returns-clause-writes
returns-clause-writes g c =
    let (year, month, day) = bounds _ c.self.invariant in
    let text = rw (
      c.laid_out.ensures,
      c.laid_out-2.ensures,
      c.laid_out-3.ensures,
      four_places c.self.inside.year year,
      two_places c.self.inside.month month,
      two_places c.self.inside.day day,
    ) at c.write.ensures.writes in
    rw (← c.self.view_is) text
