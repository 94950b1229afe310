use Rattle.std.proofs.Common.{◌≡◌, ◌+◌, ◌++◌, ◌∷◌, ◌∙◌, List, [], map, take, sym, ap}
use Rattle.std.proofs.lemmas.List.{map-append, take_more}
use Rattle.vet_base.specs.Names.{NameSet}
use Rattle.vet_base.specs.Words.{Bytes, Name}
use Rattle.vet_item_rows.specs.Columns.{packed_map, packed_names}
use Rattle.vet_item_rows.specs.Packed.{packed_item}
use Rattle.vet_item_rows.proofs.Listed.{one_more_packed}
use Rattle.vet_item_rows.proofs.rows_of.maps.map_column.Goals as goal

pub items-preserved : goal.items-preserved
items-preserved g c =
    let item_of = g.T.MapItem.item_of in
    let xs = c.args.items.now in
    let i = c.items.item-index in
    let x = c.item-item.result in
    let before : List (Name × NameSet) = map item_of (take i xs) in
    let more : take i xs ++ x ∷ [] ≡ take (i + 1) xs = ap (λ y. take i xs ++ y ∷ []) c.item-item.is
    ∙ sym (take_more xs i x c.items-test.true) in
    let key : c.as_bytes.result.now ≡ (item_of x).0 = c.as_bytes.ensures.value ∙ c.key.ensures in
    let names : c.as_slice.result.now ≡ packed_names (item_of x).1 = c.as_slice.ensures.value ∙ c.in_ok-names.ensures
    ∙ ap packed_names c.names.ensures in
    c.in_ok-push_item-2.ensures.ok
    ∙ ap (λ (bytes : Bytes). bytes ++ packed_item c.as_slice.result.now) c.in_ok-push_item.ensures.ok
    ∙ ap (λ (bytes : Bytes). (bytes ++ packed_item c.as_bytes.result.now) ++ packed_item c.as_slice.result.now)
    c.items.invariant
    ∙ ap (λ (k : Bytes). (packed_map before ++ packed_item k) ++ packed_item c.as_slice.result.now) key
    ∙ ap (λ (n : Bytes). (packed_map before ++ packed_item (item_of x).0) ++ packed_item n) names
    ∙ one_more_packed before (item_of x)
    ∙ ap packed_map (sym (map-append item_of (take i xs) (x ∷ [])) ∙ ap (map item_of) more)
