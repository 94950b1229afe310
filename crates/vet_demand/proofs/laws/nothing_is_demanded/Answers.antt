use Rattle.vet_demand.proofs.DemandLaws.{nothing_demanded}
use Rattle.vet_demand.proofs.laws.nothing_is_demanded.Goals as goal

pub returns : goal.returns
returns c policies criteria = nothing_demanded policies criteria
