use Rattle.vet_item_rows.proofs.ReadAs.{values_are_read_back}
use Rattle.vet_item_rows.proofs.laws.values_are_read_back.Goals as goal

pub returns : goal.returns
returns g c = values_are_read_back g.T.PackedItem.bytes_of g.T.PackedItem.read_bytes
