-- Rows that have a text in each column of texts.
use Rattle.std.proofs.Common.{◌≡◌, zero, suc, IsUtf8, List, [], ◌∷◌, map as mapped, sym, subst}
use Rattle.std.specs.List.{All, flat_map}
use Rattle.sqlite_value.specs.declared.value.Value.TheVariants as value
use Rattle.vet_base.proofs.ItemLemmas.{in_all, in_map}
use Rattle.vet_base.specs.Items.{IsIn}
use Rattle.vet_base.specs.Words.{Bytes}
use Rattle.vet_rows.proofs.ListEdits.{in_flat}
use Rattle.vet_tables.specs.Cells.{Row, value_of, values_of}
use Rattle.vet_tables.specs.Typed.{IsReadable}
use Rattle.vet_tables.specs.declared.cell.Cell.{Cell}
use Rattle.vet_tables.specs.declared.cell.Cell.TheVariants.{Int, Text, Blob}

abbrev pub IsTold : Cell → Type 0
IsTold (Text t) = IsUtf8 t
IsTold _ = Unit {0}

abbrev pub AreTold : Row → Type 0
AreTold [] = Unit {0}
AreTold (cell ∷ row) = IsTold cell × AreTold row

told_cell : (cell : Cell) → IsTold cell → (t : Bytes) → value_of cell ≡ value.Text t → IsUtf8 t
told_cell (Int n) told t is = cc is
told_cell (Text text) told t is = let same : text ≡ t = cc is in subst IsUtf8 same told
told_cell (Blob b) told t is = cc is

pub told_at : (row : Row) → AreTold row → IsReadable (values_of row)
told_at [] all at t is = cc is
told_at (cell ∷ row) all zero t is = told_cell cell all.0 t is
told_at (cell ∷ row) all (suc at) t is = told_at row all.1 at t is

-- the rows of items are told where that of each item is
pub each_row : {X : Type 0} (P : X → Type 0) (row : X → Row) → ((x : X) → P x → AreTold (row x)) → (xs : List X)
    → All P xs → (r : Row) → IsIn r (mapped row xs) → AreTold r
each_row P row each xs all r i =
    let it = in_map row xs r i in subst AreTold (sym it.1.1) (each it.0 (in_all P xs all it.0 it.1.0))

pub each_flat : {X : Type 0} (P : X → Type 0) (rows : X → List Row)
    → ((x : X) → P x → (r : Row) → IsIn r (rows x) → AreTold r) → (xs : List X) → All P xs → (r : Row)
    → IsIn r (flat_map rows xs) → AreTold r
each_flat P rows each xs all r i =
    let it = in_flat rows xs r i in each it.0 (in_all P xs all it.0 it.1.0) r it.1.1
