use Rattle.std.proofs.Common.{◌≡◌, All, map, take}
use Rattle.toml.specs.View.{view}
use Rattle.vet_files.specs.ReadAgain.{IsReadAs}
use Rattle.vet_files.proofs.field.sets.write_items.Given as goal

abbrev pub invariant-items : goal.invariant-items
invariant-items g l =
    (map view l.values.items ≡ map (λ v. g.V.Field.written v) (take l.item-index l.items))
    × All (λ v. IsReadAs g.V.Field.told (g.V.Field.written v) v) (take l.item-index l.items)
