use Rattle.vet_register.proofs.RepeatLaws.{repeated_is_already}
use Rattle.vet_register.proofs.laws.repeated_import_is_already.Goals as goal

pub returns : goal.returns
returns c = repeated_is_already
