use Rattle.vet_entries.proofs.ImportLaws.{entries_keep_numbers}
use Rattle.vet_entries.proofs.replaced.entries_keep_numbers.Goals as goal

pub returns : goal.returns
returns c = entries_keep_numbers
