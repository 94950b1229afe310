use Rattle.std.proofs.Common.{◌∙◌, refl}
use Rattle.vet_item_rows.proofs.MapsMade.{filed_map, map_items_can, map_is, map_column_is}
use Rattle.vet_item_rows.proofs.Reading.{passed_on}
use Rattle.vet_item_rows.proofs.read.peers.criteria_map.Goals as goal

pub returns-in_err-items : goal.returns-in_err-items
returns-in_err-items c m (can, is) =
    rw (passed_on c.from_residual.result c.in_err-items.field-0.0 c.from_residual.ensures.1
    (c.in_err-items.ensures (filed_map m) (map_items_can m can, is ∙ map_column_is m))) refl

pub returns : goal.returns
returns c m (can, is) =
    let items = c.in_ok-items.ensures (filed_map m) (map_items_can m can, is ∙ map_column_is m) in
    c.in_ok-of.ensures ∙ map_is m c.in_ok-items.items.items c.in_ok-mapped.field-0.items items c.in_ok-mapped.ensures
