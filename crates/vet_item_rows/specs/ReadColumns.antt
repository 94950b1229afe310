-- What packed columns hold, as items (ours).
use Rattle.std.specs.Prelude.{List, Option, option_map}
use Rattle.vet_base.specs.Names.{NameSet}
use Rattle.vet_base.specs.Words.{Bytes}
use Rattle.vet_item_rows.specs.Columns.{packed_names}
use Rattle.vet_item_rows.specs.ReadBack.{in_list}

-- names that may be missing: the one packed list of them, or nothing
abbrev pub items_of_names : Option NameSet → List Bytes
items_of_names names = in_list (option_map packed_names names)
