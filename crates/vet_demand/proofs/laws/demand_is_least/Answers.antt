use Rattle.vet_demand.proofs.DemandLaws.{demand_is_least, least_is_demand}
use Rattle.vet_demand.proofs.laws.demand_is_least.Goals as goal

pub returns-clause-least : goal.returns-clause-least
returns-clause-least c projects policies criteria = demand_is_least projects policies criteria

pub returns-clause-only : goal.returns-clause-only
returns-clause-only c projects policies criteria = least_is_demand projects policies criteria
