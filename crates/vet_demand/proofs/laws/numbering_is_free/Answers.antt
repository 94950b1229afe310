use Rattle.vet_demand.proofs.NumberingLaw.{numbering_free}
use Rattle.vet_demand.proofs.laws.numbering_is_free.Goals as goal

pub returns : goal.returns
returns c = numbering_free
