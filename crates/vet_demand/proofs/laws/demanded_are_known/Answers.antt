use Rattle.vet_demand.proofs.DemandLaws.{demanded_known}
use Rattle.vet_demand.proofs.laws.demanded_are_known.Goals as goal

pub returns : goal.returns
returns c projects policies criteria = demanded_known projects policies criteria
