use Rattle.vet_entries.proofs.SameContent.{same_items_are_same}
use Rattle.vet_entries.proofs.import.same_items_are_same.Goals as goal

pub returns : goal.returns
returns c = same_items_are_same
