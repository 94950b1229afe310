-- The items that an edit of a list by key removes and adds (ours).
use Rattle.std.specs.Prelude.{List, [], ◌∷◌, Option, Some, None}
use Rattle.std.specs.List.{slice_get}
use Rattle.vet_base.specs.declared.keyed.KeyedEdit.{KeyedEdit}
use Rattle.vet_base.specs.declared.keyed.KeyedEdit.TheVariants as edit

-- the item that is removed, or exchanged for another
abbrev pub removed_item : {E : Type 0} → KeyedEdit E → List E → Option E
removed_item (edit.Put place e) items = None
removed_item (edit.Take place) items = slice_get items place
removed_item (edit.Swap place e) items = slice_get items place

-- the item that is added
abbrev pub added_item : {E : Type 0} → KeyedEdit E → Option E
added_item (edit.Put place e) = Some e
added_item (edit.Take place) = None
added_item (edit.Swap place e) = Some e

-- the rows of an item, if there is one
abbrev pub rows_if : {E R : Type 0} → (E → List R) → Option E → List R
rows_if rows_of None = []
rows_if rows_of (Some e) = rows_of e

-- the one row of an item
abbrev pub one_row : {E R : Type 0} → (E → R) → E → List R
one_row row_of e = row_of e ∷ []
