-- Criteria for dependencies, which are read of the items of a map.
use Rattle.std.proofs.Common.{◌≡◌, ◌∙◌, List, [], ◌∷◌, map, refl, sym, ap}
use Rattle.std.proofs.lemmas.Cmp.{nat_list_cmp_total}
use Rattle.vet_base.specs.Keyed.{all_set}
use Rattle.vet_base.specs.Name.{read_package_name}
use Rattle.vet_base.specs.Names.{NameSet}
use Rattle.vet_base.specs.Words.{Bytes, Name}
use Rattle.vet_base.proofs.KeyedItems.{all_set_is}
use Rattle.vet_base.proofs.Rising.{R, only_equal}
use Rattle.vet_demand.specs.DependencyCriteria.{item_name}
use Rattle.vet_demand.specs.declared.dependency_criteria.DependencyItem.{DependencyItem}
use Rattle.vet_item_rows.specs.Columns.{packed_map}
use Rattle.vet_item_rows.specs.HeldValues.{AreDependencies}
use Rattle.vet_item_rows.specs.PackedItems.{as_text}
use Rattle.vet_item_rows.specs.ReadBack.{IsWritten}
use Rattle.vet_item_rows.specs.ReadMaps.{AreMapItems, IsMapItem, map_column, map_item}
use Rattle.vet_item_rows.specs.ReadValues.{dependency_column, dependency_of}
use Rattle.vet_item_rows.specs.declared.read.gathered.WithKey.{WithKey}
use Rattle.vet_item_rows.proofs.Gathering.{all_mapped}
use Rattle.vet_item_rows.proofs.ProjectsRead.{map_again, same_itself}

abbrev own : Name → Bytes
own name = name

abbrev pub filed_of : DependencyItem → WithKey Name NameSet
filed_of item = record { key = item.«package»; item = item.criteria }

unfiled : (items : List DependencyItem) → map dependency_of (map filed_of items) ≡ items
unfiled [] = refl
unfiled (item ∷ items) = ap (λ xs. item ∷ xs) (unfiled items)

module _ (items : List DependencyItem) (are : AreDependencies items) where
  held : AreMapItems own (as_text read_package_name) (map filed_of items)
  held = all_mapped filed_of (IsMapItem own (as_text read_package_name)) items
      (λ k d l. ((are.each k d l).of_package, (are.each k d l).criteria))

  -- their column is that of the items of a map
  pub dependencies_written : (bytes : Bytes) → bytes ≡ dependency_column items
      → IsWritten (AreMapItems own (as_text read_package_name)) (map_column own) bytes (map filed_of items)
  dependencies_written bytes is = (held, is ∙ sym (ap packed_map (map_again (map_item own) filed_of items)))

  pub dependencies_read : (filed : List (WithKey Name NameSet)) → filed ≡ map filed_of items
      → (deps : List DependencyItem) → deps ≡ all_set R item_name [] (map dependency_of filed) → deps ≡ items
  dependencies_read filed all deps e =
      e ∙ ap (λ fs. all_set R item_name [] (map dependency_of fs)) all ∙ ap (all_set R item_name []) (unfiled items)
      ∙ all_set_is R nat_list_cmp_total only_equal item_name items items are.by_package (same_itself items)
