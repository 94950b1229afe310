-- A name is not empty.
use Rattle.std.proofs.Common.{◌≡◌, ◌∙◌, List, true, ℕ, ap, sym}
use Rattle.std.proofs.lemmas.Bool.{false≢true}
use Rattle.vet_base.specs.Name.{is_name}
use Rattle.vet_item_rows.specs.Columns.{own_peer}

pub not_empty : (name : List ℕ) → is_name name ≡ true → name ≡ own_peer → ⊥
not_empty name is empty = false≢true (ap is_name (sym empty) ∙ is)
