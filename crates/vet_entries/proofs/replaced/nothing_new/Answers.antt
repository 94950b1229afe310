use Rattle.vet_entries.proofs.ImportLaws.{nothing_new}
use Rattle.vet_entries.proofs.replaced.nothing_new.Goals as goal

pub returns : goal.returns
returns c = nothing_new
