-- Rows in whatever order that are those of a list.
use Rattle.std.proofs.Common.{List, map}
use Rattle.std.specs.List.{All}
use Rattle.vet_base.specs.Items.{SameItems}
use Rattle.vet_item_rows.specs.ReadBack.{EachStandsFor, IsWritten}
use Rattle.vet_item_rows.proofs.Reading.{AreThose, read_as_set, stand_for}

module _ {A X : Type 0} (CanBeHeld : X → Type 0) (written : X → A) (rows : List A) (xs : List X)
    (held : All CanBeHeld xs) (same : SameItems rows (map written xs)) where
  -- what is read of them are the items of the list
  pub items_read : (found : List X) → AreThose (IsWritten CanBeHeld written) rows found → SameItems found xs
  items_read found back = read_as_set CanBeHeld written xs held rows same found back

  -- and they can be read
  pub they_stand : (ys : List X) × EachStandsFor (IsWritten CanBeHeld written) rows ys
  they_stand = (let all = stand_for CanBeHeld written xs held rows same.0 in (all.0, all.1.0))
