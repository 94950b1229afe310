-- The report of the review desk (ours): a line for each review, by number.
use Rattle.std.specs.Prelude.{List, [], ◌∷◌, ◌++◌, codes}
use Rattle.std.specs.Fmt.{decimal}
use Rattle.std.specs.List.{flat_map}
use Rattle.vet_base.specs.Day.{day_text}
use Rattle.vet_base.specs.Names.{members}
use Rattle.vet_base.specs.Words.{Name, Text}
use Rattle.vet_desk.specs.declared.review.Review.{Review}
use Rattle.vet_desk.specs.declared.review.ReviewState.{ReviewState}
use Rattle.vet_desk.specs.declared.review.ReviewState.TheVariants.{Waiting, Assigned, Finished, Withdrawn}
use Rattle.vet_register.specs.State.{State}
use Rattle.vet_reports.specs.Columns.{comma_list, left_in, line, right_in, version_columns}

-- the word of a state
abbrev pub state_word : ReviewState → Text
state_word Waiting = codes "waiting"
state_word (Assigned member) = codes "assigned"
state_word (Finished entry) = codes "finished"
state_word Withdrawn = codes "withdrawn"

-- the member to whom a review is assigned, or `-`
abbrev pub member_word : ReviewState → Text
member_word (Assigned member) = member
member_word _ = codes "-"

-- the entry of a finished review, or `-`
abbrev pub entry_word : ReviewState → Text
entry_word (Finished entry) = decimal entry
entry_word _ = codes "-"

-- the columns of a state: its word, the member and the entry
abbrev pub state_columns : ReviewState → List Text
state_columns state =
    left_in 9 (state_word state) ∷ left_in 16 (member_word state) ∷ right_in 8 (entry_word state) ∷ []

-- the line of a review for these criteria: its number, the day on which it was opened, the package and version, its
-- state, and the criteria
unfoldable pub line_for : List Name → Review → Text
line_for criteria r =
    line (right_in 8 (decimal r.number) ∷ day_text r.day ∷ (version_columns r.«package» r.version
    ++ (state_columns r.state ++ comma_list criteria ∷ [])))

-- the line of a review, with its criteria in the order of their bytes
abbrev pub review_line : Review → Text
review_line r = line_for (members r.criteria) r

-- the report
abbrev pub desk_text : State → Text
desk_text s = flat_map review_line s.desk.reviews
