-- What is told of all is told of the rest, after what was read.
use Rattle.std.proofs.Common.{◌≡◌, drop}
use Rattle.toml.specs.View.{items_view}
use Rattle.vet_files.specs.Field.{items_told, next_item}
use Rattle.vet_files.specs.Walk.{each_item}
use Rattle.vet_files.proofs.field.sets.read_items.Given as goal

abbrev pub invariant-items : goal.invariant-items
invariant-items g l =
    items_told (g.V.Field.told l.path l.key) (items_view l.item-items)
    ≡ each_item (next_item (g.V.Field.told l.path l.key)) l.values.items l.item-index
    (items_view (drop l.item-index l.item-items))
