use Rattle.vet_register.proofs.RepeatedFilesLaws.{repeated_files_are_already}
use Rattle.vet_register.proofs.laws.repeated_files_are_already.Goals as goal

pub returns : goal.returns
returns c = repeated_files_are_already
