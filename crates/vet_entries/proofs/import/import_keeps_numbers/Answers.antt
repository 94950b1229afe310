use Rattle.vet_entries.proofs.ImportLaws.{keeps_numbers}
use Rattle.vet_entries.proofs.import.import_keeps_numbers.Goals as goal

pub returns : goal.returns
returns c = keeps_numbers
