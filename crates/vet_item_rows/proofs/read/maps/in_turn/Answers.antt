use Rattle.std.proofs.Common.{arith, refl}
use Rattle.vet_item_rows.proofs.MapsRead.{left_front, left_more, left_none, left_rest}
use Rattle.vet_item_rows.proofs.Reading.{passed_on}
use Rattle.vet_item_rows.proofs.read.maps.in_turn.Goals as goal

pub returns-in_err-map_item : goal.returns-in_err-map_item
returns-in_err-map_item g c xs (each, is) =
    let next = left_front g.K.PackedItem.bytes_of g.K.PackedItem.read_bytes _ _ c.args.items.now c.items.rest.now
    c.items.found.items c.items.invariant c.items-test.true xs each is in
    let none = c.in_err-map_item.ensures next.0 next.1.0 next.1.1.0 next.1.1.1 in
    rw (passed_on c.from_residual.result c.in_err-map_item.field-0.0 c.from_residual.ensures.1 none) refl

pub items-preserved : goal.items-preserved
items-preserved g c =
    rw c.in_ok-push.ensures.items
    (left_rest g.K.PackedItem.bytes_of g.K.PackedItem.read_bytes c.args.items.now c.items.rest.now _ _ refl
    (left_more g.K.PackedItem.bytes_of g.K.PackedItem.read_bytes _ _ c.args.items.now c.items.rest.now
    c.items.found.items c.in_ok-map_item.field-0 c.items.invariant c.items-test.true c.in_ok-map_item.ensures))

pub returns : goal.returns
returns g c =
    left_none g.K.PackedItem.bytes_of g.K.PackedItem.read_bytes c.args.items.now c.items.rest.now c.items.found.items
    c.items.invariant (omega arith)
