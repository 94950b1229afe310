-- Maps from a peer's criteria to one's own (The Cargo Vet Book, importing audits, `criteria-map`).
use Rattle.std.specs.Prelude.{◌&&◌, Bool, List, map as mapped}
use Rattle.std.specs.Ordering.{nat_cmp}
use Rattle.std.specs.Cmp.Lexicographic.{pointwise, slice_cmp}
use Rattle.std.specs.FinMap as map
use Rattle.std.specs.Str.{bytes_eq}
use Rattle.vet_base.specs.Names.{NameSet, same_names}
use Rattle.vet_base.specs.Words.{Name}
use Rattle.vet_entries.specs.declared.criteria_map.MappedCriterion.{MappedCriterion}

-- the peer's criterion of an item
abbrev pub mapped_name : MappedCriterion → Name
mapped_name m = m.name

-- the items' names, and the items as entries of a map
abbrev pub names_of : List MappedCriterion → List Name
names_of items = mapped (λ m. m.name) items

abbrev pub by_name : List MappedCriterion → List (Name × NameSet)
by_name items = mapped (λ m. (m.name, m.criteria)) items

-- names to sets of names, in the order of the names' bytes
abbrev pub NamesByName : Type 0
NamesByName = map.FinMap (slice_cmp nat_cmp) NameSet

-- whether two items are the same
abbrev pub mapped_eq : MappedCriterion → MappedCriterion → Bool
mapped_eq a b = bytes_eq a.name b.name && same_names a.criteria b.criteria

-- whether two entries of a map are the same
abbrev pub pair_eq : Name × NameSet → Name × NameSet → Bool
pair_eq a b = bytes_eq a.0 b.0 && same_names a.1 b.1

-- whether two maps are the same
abbrev pub map_eq : NamesByName → NamesByName → Bool
map_eq a b = pointwise pair_eq (map.entries a) (map.entries b)
