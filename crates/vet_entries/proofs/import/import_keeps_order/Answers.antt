use Rattle.vet_entries.proofs.ImportLaws.{keeps_order}
use Rattle.vet_entries.proofs.import.import_keeps_order.Goals as goal

pub returns : goal.returns
returns c = keeps_order
