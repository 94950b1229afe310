-- Maps from names to sets of names (The Cargo Vet Book, config file: imports and policies).
use Rattle.std.specs.Prelude.{List, [], Option, Ok, Err, if◌then◌else◌}
use Rattle.std.specs.FinMap as map
use Rattle.std.specs.Option.{option_map_or}
use Rattle.toml.specs.Data.{Data, as_table}
use Rattle.vet_base.specs.Gives.{Told, found_or, ◌>>=◌}
use Rattle.vet_base.specs.Name.{is_name, is_package_name}
use Rattle.vet_base.specs.Words.{Key, Name, Path}
use Rattle.vet_demand.specs.DependencyCriteria.{with_criteria}
use Rattle.vet_demand.specs.declared.dependency_criteria.DependencyItem.{DependencyItem}
use Rattle.vet_entries.specs.CriteriaMap.{NamesByName}
use Rattle.vet_files.specs.Field.{fault, names}
use Rattle.vet_files.specs.Lists.{path_below}
use Rattle.vet_files.specs.Walk.{each_member}

-- ---- from a peer's criteria

-- one more criterion, and the names at it
abbrev pub next_mapped : Path → NamesByName → Name → Data → Told NamesByName
next_mapped path found name d = if is_name name then names path name d >>=
    (λ criteria. Ok (map.insert found name criteria)) else Err (fault path name)

abbrev pub criteria_map : Path → Key → Data → Told NamesByName
criteria_map path key d = found_or (fault path key) (as_table d) >>= each_member (next_mapped (path_below path key))
    map.empty

-- a missing map is one without items
abbrev pub or_no_map : Option NamesByName → NamesByName
or_no_map o = option_map_or (λ m. m) o map.empty

-- ---- from the names of dependencies

abbrev pub next_dependency : Path → List DependencyItem → Name → Data → Told (List DependencyItem)
next_dependency path found name d = if is_package_name name then names path name d >>=
    (λ criteria. Ok (with_criteria found name criteria)) else Err (fault path name)

abbrev pub dependency_criteria : Path → Key → Data → Told (List DependencyItem)
dependency_criteria path key d = found_or (fault path key) (as_table d) >>= each_member
    (next_dependency (path_below path key)) []

abbrev pub or_no_dependencies : Option (List DependencyItem) → List DependencyItem
or_no_dependencies o = option_map_or (λ m. m) o []
