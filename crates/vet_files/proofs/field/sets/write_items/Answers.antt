use Rattle.std.proofs.Common.{◌≡◌, ◌+◌, [], ◌∷◌, ◌++◌, take, sym, ap, ◌∙◌}
use Rattle.std.proofs.lemmas.List.{map-append, take_more}
use Rattle.std.proofs.lemmas.List.Elements.{All-push, All-same}
use Rattle.toml.specs.View.{view}
use Rattle.vet_files.specs.ReadAgain.{IsReadAs}
use Rattle.vet_files.proofs.field.sets.write_items.Goals as goal

pub items-preserved : goal.items-preserved
items-preserved g c =
    let (so_far, each) = c.items.invariant in
    let xs = c.args.items.now in
    let i = c.items.item-index in
    let x = c.item-item.result in
    let more : take (i + 1) xs ≡ take i xs ++ x ∷ [] = take_more xs i x c.items-test.true
    ∙ ap (λ y. take i xs ++ y ∷ []) (sym c.item-item.is) in (
      rw (
        c.in_ok-push.ensures.items,
        more,
        map-append view c.items.values.items (c.in_ok-write.field-0 ∷ []),
        so_far,
        c.in_ok-write.ensures.value,
      )
          (sym (map-append (λ v. g.V.Field.written v) (take i xs) (x ∷ []))),
      All-same (λ v. IsReadAs g.V.Field.told (g.V.Field.written v) v) (take (i + 1) xs) (take i xs ++ x ∷ []) more
          (All-push (λ v. IsReadAs g.V.Field.told (g.V.Field.written v) v) (take i xs) x each
          c.in_ok-write.ensures.read),
    )
