-- The list at a key (ours).
use Rattle.std.specs.Prelude.{Option, Some}
use Rattle.toml.specs.Data.{Data, array, Items, no_items, Members, get_member}
use Rattle.vet_base.specs.Words.{Key}

-- the items of a list, or none if there is no value or it is not a list
abbrev pub items_in : Option Data → Items
items_in (Some (array ds)) = ds
items_in _ = no_items

abbrev pub list_at : Key → Members → Items
list_at key ms = items_in (get_member key ms)
