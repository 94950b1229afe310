use Rattle.vet_entries.proofs.AnotherDay.{day_condemns_the_same, day_keeps_steps}
use Rattle.vet_entries.proofs.laws.another_day_keeps_steps.Goals as goal

pub returns : goal.returns
returns c = record { steps = day_keeps_steps; condemned = day_condemns_the_same }
