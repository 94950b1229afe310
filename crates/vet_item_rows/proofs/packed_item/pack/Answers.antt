use Rattle.std.proofs.Common.{◌≡◌, ◌+◌, ◌++◌, ◌∷◌, ◌∙◌, [], map, take, sym, ap}
use Rattle.std.proofs.lemmas.List.{map-append, take_more}
use Rattle.vet_base.specs.Words.{Bytes}
use Rattle.vet_item_rows.specs.Packed.{packed, packed_item}
use Rattle.vet_item_rows.proofs.PackedLists.{packed_push}
use Rattle.vet_item_rows.proofs.packed_item.pack.Goals as goal

pub values-preserved : goal.values-preserved
values-preserved g c =
    let bytes_of = g.T.PackedItem.bytes_of in
    let xs = c.args.values.now in
    let i = c.values.value-index in
    let x = c.value-item.result in
    let more : take (i + 1) xs ≡ take i xs ++ x ∷ [] = take_more xs i x c.values-test.true
    ∙ ap (λ y. take i xs ++ y ∷ []) (sym c.value-item.is) in
    c.in_ok-push_item.ensures.ok
    ∙ ap (λ (item : Bytes). c.values.bytes.items ++ packed_item item) c.bytes.ensures
    ∙ ap (λ (before : Bytes). before ++ packed_item (bytes_of x)) c.values.invariant
    ∙ sym (ap (λ ys. packed (map bytes_of ys)) more ∙ ap packed (map-append bytes_of (take i xs) (x ∷ []))
    ∙ packed_push (map bytes_of (take i xs)) (bytes_of x))
