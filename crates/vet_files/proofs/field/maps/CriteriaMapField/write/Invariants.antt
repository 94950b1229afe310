use Rattle.std.proofs.Common.{◌≡◌, take}
use Rattle.toml.specs.View.{table_view}
use Rattle.vet_base.specs.Name.{is_name}
use Rattle.vet_entries.specs.declared.criteria_map.MappedCriterion.{MappedCriterion}
use Rattle.vet_files.proofs.MapsRead.{AreRead, sets_table}
use Rattle.vet_files.proofs.field.maps.CriteriaMapField.write.Given as goal

abbrev pub invariant-criteria : goal.invariant-criteria
invariant-criteria l =
    (table_view l.table ≡ sets_table (λ (m : MappedCriterion). m.name) (λ m. m.criteria)
    (take l.item-index l.item-items))
    × AreRead (λ (m : MappedCriterion). m.name) (λ m. m.criteria) is_name (take l.item-index l.item-items)
