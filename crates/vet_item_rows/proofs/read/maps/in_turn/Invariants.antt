-- If the items are those of a map, those found and the rest are it.
use Rattle.std.proofs.Common.{length}
use Rattle.vet_item_rows.proofs.MapsRead.{Left}
use Rattle.vet_item_rows.proofs.read.maps.in_turn.Given as goal

abbrev pub invariant-items : goal.invariant-items
invariant-items g l = Left g.K.PackedItem.bytes_of g.K.PackedItem.read_bytes l.items l.rest l.found.items

abbrev pub decreases-items : goal.decreases-items
decreases-items g l = length l.rest
