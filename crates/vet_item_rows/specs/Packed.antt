-- Packed lists: how a column keeps many values (ours).
use Rattle.std.specs.Prelude.{◌≡◌, ◌&&◌, ◌||◌, Bool, List, [], ◌∷◌, ◌++◌, get_or, length, codes, nat_eq, nat_le, nat_lt}
use Rattle.std.specs.Prelude.{not, Option, Some, None}
use Rattle.std.specs.Fmt.{decimal}
use Rattle.vet_base.specs.Words.{Bytes}

-- an item in a packed list: its length in bytes, a colon, and the item
abbrev pub packed_item : Bytes → Bytes
packed_item item = decimal (length item) ++ (codes ":" ++ item)

-- a packed list: its items one after the other
abbrev pub packed : List Bytes → Bytes
packed [] = []
packed (item ∷ items) = packed_item item ++ packed items

-- a value that may be missing: a packed list of none or one
abbrev pub packed_option : Option Bytes → Bytes
packed_option None = packed []
packed_option (Some value) = packed (value ∷ [])

-- the bytes do not begin with an item, whatever comes after it
abbrev pub HasNoItem : Bytes → Type 0
HasNoItem bytes = (item rest : Bytes) → (bytes ≡ packed_item item ++ rest → ⊥)

-- digits as a length is written: one, or up to 19 of which the first is not zero
abbrev pub is_length : Bytes → Bool
is_length digits = nat_eq (length digits) 1
    || (nat_lt 1 (length digits) && nat_le (length digits) 19 && not (nat_eq (get_or digits 0 0) 48))

-- these are the items of a packed list, or the bytes are not one
abbrev pub IsUnpacked : Bytes → Option (List Bytes) → Type 0
IsUnpacked bytes (Some items) = bytes ≡ packed items
IsUnpacked bytes None = (items : List Bytes) → (bytes ≡ packed items → ⊥)
