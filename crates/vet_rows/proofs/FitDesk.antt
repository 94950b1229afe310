-- The rows of the review desk, and those that a change of it removes and adds, have the columns of their tables.
use Rattle.std.proofs.Common.{ℕ, List, Option, None, Some, map}
use Rattle.std.specs.Prelude.{option_map}
use Rattle.std.specs.List.{slice_get}
use Rattle.vet_base.specs.Words.{Name}
use Rattle.vet_desk.specs.Desk.{DeskState}
use Rattle.vet_desk.specs.Review.{in_state}
use Rattle.vet_desk.specs.declared.change.DeskChange.{DeskChange}
use Rattle.vet_desk.specs.declared.change.DeskChange.TheVariants.{Join, Open, Turn, Finish}
use Rattle.vet_desk.specs.declared.review.Review.{Review}
use Rattle.vet_desk.specs.declared.review.ReviewState.{ReviewState}
use Rattle.vet_desk.specs.declared.review.ReviewState.TheVariants.{Finished}
use Rattle.vet_item_rows.specs.DeskRows.{member_row, review_row}
use Rattle.vet_register.specs.declared.change.DeskEdit.{DeskEdit}
use Rattle.vet_rows.proofs.ExchangeParts.{Makes}
use Rattle.vet_rows.proofs.FitLists.{AllFit, AreRows, if_fit, item_fits, mapped_fit, none_fit, one_fit}
use Rattle.vet_rows.specs.DeskChanges.{desk_change_exchanges, desk_exchanges, the_member, the_review, turned_exchange}
use Rattle.vet_rows.specs.DeskRows.{rows_of_desk}
use Rattle.vet_rows.specs.FitChanges.{Fits}
use Rattle.vet_tables.specs.Cells.{IsRowOf}
use Rattle.vet_tables.specs.Forms.{form_of}
use Rattle.vet_tables.specs.declared.table_name.DeskTable.{DeskTable}
use Rattle.vet_tables.specs.declared.table_name.DeskTable.TheVariants.{Members, Reviews}
use Rattle.vet_tables.specs.declared.table_name.TableName.TheVariants as table

pub member_fits : (name : Name) → IsRowOf (form_of (table.Desk Members)) (member_row name)
member_fits name = (tt, tt)

pub members_fit : (names : List Name) → AreRows (table.Desk Members) (map member_row names)
members_fit = mapped_fit (table.Desk Members) member_row member_fits

pub review_fits : (r : Review) → IsRowOf (form_of (table.Desk Reviews)) (review_row r)
review_fits r = (tt, (tt, (tt, (tt, (tt, (tt, (tt, (tt, tt))))))))

pub reviews_fit : (reviews : List Review) → AreRows (table.Desk Reviews) (map review_row reviews)
reviews_fit = mapped_fit (table.Desk Reviews) review_row review_fits

pub desk_rows_fit : (desk : DeskState) (t : DeskTable) → AreRows (table.Desk t) (rows_of_desk desk t)
desk_rows_fit desk Members = members_fit desk.members
desk_rows_fit desk Reviews = reviews_fit desk.reviews

-- ---- by an edit, if there is one

the_review_fits : (r : Review) → AreRows (table.Desk Reviews) (the_review r)
the_review_fits r = one_fit (table.Desk Reviews) (review_row r) (review_fits r)

the_member_fits : (n : Name) → AreRows (table.Desk Members) (the_member n)
the_member_fits n = one_fit (table.Desk Members) (member_row n) (member_fits n)

turned_fits : (state : ReviewState) (review : Option Review) → Makes Fits (turned_exchange state review)
turned_fits state review = (
  if_fit (table.Desk Reviews) the_review the_review_fits review,
  if_fit (table.Desk Reviews) the_review the_review_fits (option_map (in_state state) review),
)

desk_change_fits : (c : DeskChange) (entry : Option ℕ) (d : DeskState) → AllFit (desk_change_exchanges c entry d)
desk_change_fits (Join change) entry d =
    (item_fits (table.Desk Members) the_member the_member_fits change d.members, tt)
desk_change_fits (Open review) entry d = ((none_fit (table.Desk Reviews), the_review_fits review), tt)
desk_change_fits (Turn place state) entry d = (turned_fits state (slice_get d.reviews place), tt)
desk_change_fits (Finish place made) None d = tt
desk_change_fits (Finish place made) (Some number) d =
    (turned_fits (Finished number) (slice_get d.reviews place), tt)

pub desk_fit : (e : Option DeskEdit) (d : DeskState) → AllFit (desk_exchanges e d)
desk_fit None d = tt
desk_fit (Some e) d = desk_change_fits e.change e.entry d
