-- What is told of all is told of the rest, after what was found.
use Rattle.std.proofs.Common.{◌≡◌, drop}
use Rattle.toml.specs.View.{items_view}
use Rattle.vet_files.specs.Walk.{each_item}
use Rattle.vet_files.proofs.read.walk.each_item.Given as goal

abbrev pub invariant-items : goal.invariant-items
invariant-items g l = each_item (g.R.ReadItem.told l.reader) l.fn.start 0 (items_view l.item-items)
    ≡ each_item (g.R.ReadItem.told l.reader) l.found l.place (items_view (drop l.place l.item-items))
