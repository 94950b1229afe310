-- Criteria by the names of dependencies, in the order of the names (ours).
use Rattle.std.specs.Prelude.{◌≡◌, ◌&&◌, Bool, List, Option, Some, nat_eq, option_map}
use Rattle.std.specs.Ordering.{nat_cmp}
use Rattle.std.specs.Cmp.Lexicographic.{pointwise, slice_cmp}
use Rattle.vet_base.specs.Names.{NameSet, same_names}
use Rattle.vet_base.specs.Keyed.{IsByKey, item_of, with_item}
use Rattle.vet_base.specs.Words.{Name}
use Rattle.vet_demand.specs.declared.dependency_criteria.DependencyItem.{DependencyItem}

-- the name of an item, which is its key
abbrev pub item_name : DependencyItem → Name
item_name i = i.«package»

-- each item's name comes before those after it
abbrev pub IsByPackage : List DependencyItem → Type 0
IsByPackage items = IsByKey (slice_cmp nat_cmp) item_name items

-- the criteria of a name
abbrev pub criteria_for : List DependencyItem → Name → Option NameSet
criteria_for items name = option_map (λ i. i.criteria) (item_of (slice_cmp nat_cmp) item_name items name)

-- the items of lesser names, then these criteria at this name, then the items of greater names
abbrev pub with_criteria : List DependencyItem → Name → NameSet → List DependencyItem
with_criteria items name criteria =
    with_item (slice_cmp nat_cmp) item_name items (record { «package» = name; criteria = criteria })

-- criteria that are set are found at their name, and every other name keeps its criteria
abbrev pub SetCriteriaAreFound : Type 0
SetCriteriaAreFound = (items : List DependencyItem) (name : Name) (criteria : NameSet)
    → criteria_for (with_criteria items name criteria) name ≡ Some criteria

abbrev pub OtherCriteriaStay : Type 0
OtherCriteriaStay =
    (items : List DependencyItem) (name other : Name) (criteria : NameSet) → (other ≡ name → ⊥)
    → criteria_for (with_criteria items name criteria) other ≡ criteria_for items other

-- the same name with the same criteria
abbrev pub dependency_eq : DependencyItem → DependencyItem → Bool
dependency_eq a b = pointwise nat_eq a.«package» b.«package» && same_names a.criteria b.criteria

-- the same names with the same criteria
abbrev pub dependencies_eq : List DependencyItem → List DependencyItem → Bool
dependencies_eq = pointwise dependency_eq
