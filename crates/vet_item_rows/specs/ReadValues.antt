-- What a column of criteria for dependencies is read as (ours).
use Rattle.std.specs.Prelude.{List}
use Rattle.vet_base.specs.Names.{NameSet}
use Rattle.vet_base.specs.Words.{Bytes, Name}
use Rattle.vet_demand.specs.declared.dependency_criteria.DependencyItem.{DependencyItem}
use Rattle.vet_item_rows.specs.Columns.{packed_map}
use Rattle.vet_item_rows.specs.SettingRows.{dependency_items}
use Rattle.vet_item_rows.specs.declared.read.gathered.WithKey.{WithKey}

-- criteria for dependencies, as a column
abbrev pub dependency_column : List DependencyItem → Bytes
dependency_column items = packed_map (dependency_items items)

-- criteria that are filed under a dependency's name, as an item
abbrev pub dependency_of : WithKey Name NameSet → DependencyItem
dependency_of filed = record { «package» = filed.key; criteria = filed.item }
