use Rattle.vet_register.proofs.RepeatedFilesLaws.{held_files_are_already}
use Rattle.vet_register.proofs.laws.held_files_are_already.Goals as goal

pub returns : goal.returns
returns c = held_files_are_already
