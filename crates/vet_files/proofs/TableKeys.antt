-- The keys of a table in memory rise, as its map is in order.
use Rattle.std.proofs.Common.{◌≡◌, List, [], ◌∷◌, Less, String, Global, string_bytes}
use Rattle.std.specs.List.{AllByRecursion}
use Rattle.std.specs.List.Sorted.{IsStrictlySortedBy}
use Rattle.std.specs.Map.{keys_of}
use Rattle.std.specs.String.{string_cmp}
use Rattle.toml.specs.View.{members_view}
use Rattle.toml.specs.declared.value.Value.{Value}
use Rattle.vet_files.specs.Walk.{IsBelow, KeysRise}

abbrev Entry : Type 0
Entry = String Global × Value

below : (key : String Global) (es : List Entry) → AllByRecursion (λ other. string_cmp key other ≡ Less) (keys_of es)
    → IsBelow (string_bytes key) (members_view es)
below key [] h = tt
below key (e ∷ es) h = (h.0, below key es h.1)

pub keys-rise : (es : List Entry) → IsStrictlySortedBy string_cmp (keys_of es) → KeysRise (members_view es)
unfolding IsStrictlySortedBy
keys-rise [] h = tt
keys-rise (e ∷ es) h = (below e.0 es h.0, keys-rise es h.1)
