use Rattle.std.proofs.Common.{◌<◌, ◌^◌, ◌∙◌, Bor, Global, List, Vec, ap, arith, length, map, option_map, sym, ℕ}
use Rattle.std.proofs.lemmas.Option.{same_Some}
use Rattle.vet_base.specs.Words.{Bytes}
use Rattle.vet_item_rows.specs.ReadMaps.{in_turn}
use Rattle.vet_item_rows.proofs.ColumnsRead.{items_back}
use Rattle.vet_item_rows.proofs.MapsRead.{here}
use Rattle.vet_item_rows.proofs.Reading.{none_found, some_found}
use Rattle.vet_item_rows.proofs.read.maps.map_items.Goals as goal

abbrev items_in : Vec (Bor (List ℕ)) Global → List Bytes
items_in v = map here v.items

pub returns-in_err-items : goal.returns-in_err-items
returns-in_err-items g c xs (can, is) =
    let fits : length c.args.bytes.now < 2 ^ 63 = omega arith in
    let back = items_back (in_turn g.K.PackedItem.bytes_of xs) c.args.bytes.now _ fits is c.in_ok-read_items.ensures in
    let none = none_found c.in_ok-read_items.field-0 c.in_err-items.field-0.0 c.in_err-items.ensures in
    cc (sym (ap (option_map items_in) none) ∙ back)

pub returns : goal.returns
returns g c xs (can, is) =
    let fits : length c.args.bytes.now < 2 ^ 63 = omega arith in
    let back = items_back (in_turn g.K.PackedItem.bytes_of xs) c.args.bytes.now _ fits is c.in_ok-read_items.ensures in
    let some = some_found c.in_ok-read_items.field-0 c.in_ok-items.items c.in_ok-items.ensures in
    c.in_turn.ensures xs (
      can,
      ap (map here) c.as_slice.ensures.value
          ∙ same_Some (items_in c.in_ok-items.items) (in_turn g.K.PackedItem.bytes_of xs)
          (sym (ap (option_map items_in) some) ∙ back),
    )
