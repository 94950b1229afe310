use Rattle.vet_entries.proofs.ImportLaws.{entries_are_held}
use Rattle.vet_entries.proofs.replaced.entries_are_held.Goals as goal

pub returns : goal.returns
returns c = entries_are_held
