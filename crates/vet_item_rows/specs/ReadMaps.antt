-- What columns of maps hold, as items (ours).
use Rattle.std.specs.Prelude.{◌≡◌, List, Option, Some, map}
use Rattle.std.specs.List.{All, flat_map}
use Rattle.vet_base.specs.Names.{NameSet}
use Rattle.vet_base.specs.Words.{Bytes, Name}
use Rattle.vet_item_rows.specs.Columns.{key_and_names, packed_map}
use Rattle.vet_item_rows.specs.Values.{AreNames}
use Rattle.vet_item_rows.specs.declared.read.gathered.WithKey.{WithKey}

-- names that are filed under a key, as an item of a map
abbrev pub map_item : {K : Type 0} → (K → Bytes) → WithKey K NameSet → Name × NameSet
map_item bytes_of filed = (bytes_of filed.key, filed.item)

-- the key is read from its bytes, and the names can be held
abbrev pub IsMapItem : {K : Type 0} → (K → Bytes) → (Bytes → Option K) → WithKey K NameSet → Type 0
IsMapItem bytes_of read filed = (read (bytes_of filed.key) ≡ Some filed.key) × AreNames filed.item

-- keys and packed names in turn
abbrev pub in_turn : {K : Type 0} → (K → Bytes) → List (WithKey K NameSet) → List Bytes
in_turn bytes_of filed = flat_map key_and_names (map (map_item bytes_of) filed)

-- the column of a map
abbrev pub map_column : {K : Type 0} → (K → Bytes) → List (WithKey K NameSet) → Bytes
map_column bytes_of filed = packed_map (map (map_item bytes_of) filed)

-- what such a column stands for
abbrev pub AreMapItems : {K : Type 0} → (K → Bytes) → (Bytes → Option K) → List (WithKey K NameSet) → Type 0
AreMapItems bytes_of read filed = All (IsMapItem bytes_of read) filed
