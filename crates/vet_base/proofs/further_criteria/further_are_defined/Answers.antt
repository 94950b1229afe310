use Rattle.vet_base.proofs.FurtherLaws.{further_are_defined}
use Rattle.vet_base.proofs.further_criteria.further_are_defined.Goals as goal

pub returns : goal.returns
returns c = further_are_defined
