-- The rows of the review desk (ours).
use Rattle.std.specs.Prelude.{ℤ, pos, [], ◌∷◌}
use Rattle.vet_base.specs.Day.{day_number}
use Rattle.vet_base.specs.Version.{version_text}
use Rattle.vet_base.specs.Words.{Name}
use Rattle.vet_desk.specs.declared.review.Review.{Review}
use Rattle.vet_desk.specs.declared.review.ReviewState.{ReviewState}
use Rattle.vet_desk.specs.declared.review.ReviewState.TheVariants.{Waiting, Assigned, Finished, Withdrawn}
use Rattle.vet_item_rows.specs.Columns.{packed_names}
use Rattle.vet_tables.specs.Cells.{Row}
use Rattle.vet_tables.specs.declared.cell.Cell.TheVariants.{Blob, Int, Text}

abbrev pub member_row : Name → Row
member_row name = Text name ∷ []

-- the number of a state
abbrev pub state_number : ReviewState → ℤ
state_number Waiting = pos 0
state_number (Assigned member) = pos 1
state_number (Finished entry) = pos 2
state_number Withdrawn = pos 3

-- the member to whom it is assigned, if it is
abbrev pub assigned_member : ReviewState → Name
assigned_member (Assigned member) = member
assigned_member _ = []

-- the number of the entry that finished it, if one did
abbrev pub finishing_entry : ReviewState → ℤ
finishing_entry (Finished entry) = pos entry
finishing_entry _ = pos 0

abbrev pub review_row : Review → Row
review_row r =
    Int (pos r.number) ∷ Text r.«package» ∷ Text (version_text r.version) ∷ Blob (packed_names r.criteria)
    ∷ Int (day_number r.day) ∷ Int (state_number r.state) ∷ Text (assigned_member r.state)
    ∷ Int (finishing_entry r.state) ∷ []
