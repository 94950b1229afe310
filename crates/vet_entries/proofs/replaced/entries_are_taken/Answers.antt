use Rattle.vet_entries.proofs.ImportLaws.{entries_are_taken}
use Rattle.vet_entries.proofs.replaced.entries_are_taken.Goals as goal

pub returns : goal.returns
returns c = entries_are_taken
