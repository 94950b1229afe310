-- What is read of all items is the values so far, and what is read of the rest.
use Rattle.std.proofs.Common.{◌≡◌, ◌++◌, drop, map, option_map}
use Rattle.vet_item_rows.specs.PackedItems.{all_read}
use Rattle.vet_item_rows.proofs.packed_item.read_all.Given as goal

abbrev pub invariant-items : goal.invariant-items
invariant-items g l =
    all_read g.T.PackedItem.read_bytes (map (λ item. item.now) l.items)
    ≡ option_map (λ rest. l.values.items ++ rest)
    (all_read g.T.PackedItem.read_bytes (map (λ item. item.now) (drop l.item-index l.items)))
