use Rattle.vet_entries.proofs.ImportLaws.{takes_entries}
use Rattle.vet_entries.proofs.import.import_takes_entries.Goals as goal

pub returns : goal.returns
returns c = takes_entries
