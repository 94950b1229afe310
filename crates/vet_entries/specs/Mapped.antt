-- The own criteria that the names of a peer stand for (The Cargo Vet Book, importing audits, `criteria-map`; the exact
-- form is ours).
use Rattle.std.specs.Prelude.{List, [], ◌∷◌, if◌then◌else◌}
use Rattle.std.specs.Option.{option_map_or}
use Rattle.std.specs.FinMap as map
use Rattle.std.specs.FinSet as set
use Rattle.vet_base.specs.CriteriaChanges.{is_built_in}
use Rattle.vet_base.specs.Names.{NameSet, members}
use Rattle.vet_base.specs.Words.{Name}
use Rattle.vet_entries.specs.CriteriaMap.{NamesByName}

-- the criteria that a name stands for if the map does not have it: a built-in one for itself, any other for nothing
abbrev pub unlisted : Name → NameSet
unlisted name = if is_built_in name then set.insert set.empty name else set.empty

-- the criteria that a name of a peer stands for: those that the map lists for it, if it has it
abbrev pub mapped_name : NamesByName → Name → NameSet
mapped_name m name = option_map_or (λ criteria. criteria) (map.get m name) (unlisted name)

-- the criteria that some names stand for: all that any of them stands for
abbrev pub all_mapped : NamesByName → List Name → NameSet
all_mapped m [] = set.empty
all_mapped m (name ∷ rest) = set.union (mapped_name m name) (all_mapped m rest)

abbrev pub mapped : NamesByName → NameSet → NameSet
mapped m names = all_mapped m (members names)

-- all that a map lists
abbrev pub all_targets : List (Name × NameSet) → NameSet
all_targets [] = set.empty
all_targets (item ∷ rest) = set.union item.1 (all_targets rest)

abbrev pub targets : NamesByName → NameSet
targets m = all_targets (map.entries m)
