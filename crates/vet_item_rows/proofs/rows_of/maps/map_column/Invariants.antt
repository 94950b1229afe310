-- The items so far are packed.
use Rattle.std.proofs.Common.{◌≡◌, map, take}
use Rattle.vet_item_rows.specs.Columns.{packed_map}
use Rattle.vet_item_rows.proofs.rows_of.maps.map_column.Given as goal

abbrev pub invariant-items : goal.invariant-items
invariant-items g l = l.bytes.items ≡ packed_map (map g.T.MapItem.item_of (take l.item-index l.items))
