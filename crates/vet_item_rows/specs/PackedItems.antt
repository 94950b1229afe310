-- Packed lists of values (ours).
use Rattle.std.specs.Prelude.{◌≡◌, List, [], ◌∷◌, Option, Some, None, if◌then◌else◌, option_map}
use Rattle.std.specs.Str.{is_utf8}
use Rattle.std.specs.FinSet as set
use Rattle.vet_base.specs.Names.{NameSet}
use Rattle.vet_base.specs.Words.{Bytes, Name, Text}
use Rattle.vet_item_rows.specs.Packed.{packed}

-- the values that some items stand for, if each stands for one
abbrev pub value_before : {X : Type 0} → Option X → Option (List X) → Option (List X)
value_before None found = None
value_before (Some x) found = option_map (λ xs. x ∷ xs) found

abbrev pub all_read : {X : Type 0} → (Bytes → Option X) → List Bytes → Option (List X)
all_read read [] = Some []
all_read read (item ∷ items) = value_before (read item) (all_read read items)

-- bytes are read as these values: they are a packed list of items that stand for them, or of no such items
abbrev pub IsReadAs : {X : Type 0} → (Bytes → Option X) → Bytes → Option (List X) → Type 0
IsReadAs read bytes (Some xs) = (items : List Bytes) × ((bytes ≡ packed items) × (all_read read items ≡ Some xs))
IsReadAs read bytes None = (items : List Bytes) → bytes ≡ packed items → all_read read items ≡ None

-- a value read from bytes, which must be UTF-8
abbrev pub as_text : {X : Type 0} → (Text → Option X) → Bytes → Option X
as_text read bytes = if is_utf8 bytes then read bytes else None

-- bytes are read as this set: they are a packed list of items that stand for its members, or of no such items
abbrev pub IsReadAsSet : (Bytes → Option Name) → Bytes → Option NameSet → Type 0
IsReadAsSet read bytes (Some names) = (list : List Name)
    × (IsReadAs read bytes (Some list) × (names ≡ set.from_list list))
IsReadAsSet read bytes None = IsReadAs read bytes None
