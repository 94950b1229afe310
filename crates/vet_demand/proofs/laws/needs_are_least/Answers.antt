use Rattle.vet_demand.proofs.NeedsLaws.{needs-iff}
use Rattle.vet_demand.proofs.laws.needs_are_least.Goals as goal

pub returns : goal.returns
returns c policies criteria project criterion v = needs-iff policies criteria project criterion v
