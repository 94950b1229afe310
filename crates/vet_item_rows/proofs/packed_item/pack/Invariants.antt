-- The values so far are packed.
use Rattle.std.proofs.Common.{◌≡◌, map, take}
use Rattle.vet_item_rows.specs.Packed.{packed}
use Rattle.vet_item_rows.proofs.packed_item.pack.Given as goal

abbrev pub invariant-values : goal.invariant-values
invariant-values g l = l.bytes.items ≡ packed (map g.T.PackedItem.bytes_of (take l.value-index l.values))
