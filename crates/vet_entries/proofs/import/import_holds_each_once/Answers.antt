use Rattle.vet_entries.proofs.ImportLaws.{holds_each_once}
use Rattle.vet_entries.proofs.import.import_holds_each_once.Goals as goal

pub returns : goal.returns
returns c = holds_each_once
