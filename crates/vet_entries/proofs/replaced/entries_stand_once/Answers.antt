use Rattle.vet_entries.proofs.ImportLaws.{entries_stand_once}
use Rattle.vet_entries.proofs.replaced.entries_stand_once.Goals as goal

pub returns : goal.returns
returns c = entries_stand_once
