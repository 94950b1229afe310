use Rattle.std.proofs.Common.{◌≡◌, take}
use Rattle.toml.specs.View.{table_view}
use Rattle.vet_base.specs.Name.{is_package_name}
use Rattle.vet_demand.specs.DependencyCriteria.{item_name}
use Rattle.vet_files.proofs.MapsRead.{AreRead, sets_table}
use Rattle.vet_files.proofs.field.maps.DependencyCriteriaField.write.Given as goal

abbrev pub invariant-packages : goal.invariant-packages
invariant-packages l =
    (table_view l.table ≡ sets_table item_name (λ i. i.criteria) (take l.item-index l.item-items))
    × AreRead item_name (λ i. i.criteria) is_package_name (take l.item-index l.item-items)
