use Rattle.vet_base.proofs.DefinitionLaws.{same_definitions}
use Rattle.vet_base.proofs.definitions.same_definitions.Goals as goal

pub returns : goal.returns
returns c = same_definitions
