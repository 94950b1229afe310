-- Laws of packed lists (ours).
use Rattle.std.specs.Prelude.{◌≡◌, ◌<◌, ◌^◌, List, Option, Some, length, map}
use Rattle.std.specs.List.{All}
use Rattle.vet_base.specs.Words.{Bytes}
use Rattle.vet_item_rows.specs.Packed.{packed}
use Rattle.vet_item_rows.specs.PackedItems.{IsReadAs}

-- lists that are packed alike are the same, if they are as long as a list in memory may be
abbrev pub PackedOnce : Type 0
PackedOnce = (items others : List Bytes) → length (packed items) < 2 ^ 63 → packed items ≡ packed others
    → items ≡ others

-- values of which each is read from its bytes are read from their packed list, as nothing else
abbrev pub ValuesAreReadBack : {X : Type 0} → (X → Bytes) → (Bytes → Option X) → Type 0
ValuesAreReadBack {X} bytes_of read = (values : List X) → All (λ x. read (bytes_of x) ≡ Some x) values
    → length (packed (map bytes_of values)) < 2 ^ 63
    → (found : Option (List X)) → IsReadAs read (packed (map bytes_of values)) found → found ≡ Some values
