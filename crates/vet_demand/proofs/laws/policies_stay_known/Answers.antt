use Rattle.vet_demand.proofs.Naming.{known_by_fewer, known_by_more, known_with, known_without}
use Rattle.vet_demand.proofs.laws.policies_stay_known.Goals as goal

pub returns-clause-set : goal.returns-clause-set
returns-clause-set c criteria policies p known none = known_with criteria policies known p none

pub returns-clause-dropped : goal.returns-clause-dropped
returns-clause-dropped c criteria policies key known = known_without criteria policies known key

pub returns-clause-more_criteria : goal.returns-clause-more_criteria
returns-clause-more_criteria c criteria policies name d known = known_by_more criteria policies known name d

pub returns-clause-fewer_criteria : goal.returns-clause-fewer_criteria
returns-clause-fewer_criteria c criteria policies name free known = known_by_fewer criteria policies known name free
