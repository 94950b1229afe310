-- The items found stand in front of the rest.
use Rattle.std.proofs.Common.{◌≡◌, ◌++◌, length, map}
use Rattle.vet_item_rows.specs.Packed.{packed}
use Rattle.vet_item_rows.proofs.packed.read_items.Given as goal

abbrev pub invariant-items : goal.invariant-items
invariant-items l = l.bytes ≡ packed (map (λ item. item.now) l.items.items) ++ l.rest

abbrev pub decreases-items : goal.decreases-items
decreases-items l = length l.rest
