use Rattle.vet_item_rows.proofs.PackedLists.{packed_once}
use Rattle.vet_item_rows.proofs.laws.packed_lists_are_read_back.Goals as goal

pub returns : goal.returns
returns c = packed_once
