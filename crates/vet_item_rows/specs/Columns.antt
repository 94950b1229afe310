-- What columns hold for values (ours).
use Rattle.std.specs.Prelude.{ℤ, pos, negsuc, Bool, true, false, List, [], ◌∷◌, Option, Some, None, option_map}
use Rattle.std.specs.List.{flat_map}
use Rattle.vet_base.specs.Names.{NameSet, members}
use Rattle.vet_base.specs.Words.{Bytes, Name}
use Rattle.vet_entries.specs.declared.entry.Source.{Source}
use Rattle.vet_entries.specs.declared.entry.Source.TheVariants.{Own, Peer}
use Rattle.vet_graph.specs.declared.class.Class.{Class}
use Rattle.vet_graph.specs.declared.class.Class.TheVariants.{Conflicting, Full, Partial, Exempted, Unvetted}
use Rattle.vet_item_rows.specs.Packed.{packed, packed_option}

-- a boolean that may be missing
abbrev pub flag : Option Bool → ℤ
flag None = negsuc 0
flag (Some false) = pos 0
flag (Some true) = pos 1

-- a set of names or texts: its members in order
abbrev pub packed_names : NameSet → Bytes
packed_names names = packed (members names)

-- a set of names that may be missing
abbrev pub packed_names_option : Option NameSet → Bytes
packed_names_option names = packed_option (option_map packed_names names)

-- a map from names to sets of names: each key and its packed names in turn
abbrev pub key_and_names : Name × NameSet → List Bytes
key_and_names item = item.0 ∷ packed_names item.1 ∷ []

abbrev pub packed_map : List (Name × NameSet) → Bytes
packed_map items = packed (flat_map key_and_names items)

-- whose something is: the name of the peer, or empty for one's own
abbrev pub own_peer : Name
own_peer = []

abbrev pub peer_of_source : Source → Name
peer_of_source Own = own_peer
peer_of_source (Peer name) = name

-- a class, and none
abbrev pub class_number : Class → ℤ
class_number Conflicting = pos 0
class_number Full = pos 1
class_number Partial = pos 2
class_number Exempted = pos 3
class_number Unvetted = pos 4

abbrev pub class_or_none : Option Class → ℤ
class_or_none (Some class) = class_number class
class_or_none None = pos 5
