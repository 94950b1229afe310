-- The rows of the review desk that can be held have a text in each column of texts.
use Rattle.std.proofs.Common.{IsUtf8}
use Rattle.std.specs.List.{All}
use Rattle.vet_base.specs.Items.{IsIn}
use Rattle.vet_base.specs.Words.{Name}
use Rattle.vet_desk.specs.Desk.{DeskState}
use Rattle.vet_desk.specs.declared.review.Review.{Review}
use Rattle.vet_desk.specs.declared.review.ReviewState.{ReviewState}
use Rattle.vet_desk.specs.declared.review.ReviewState.TheVariants.{Assigned, Finished, Waiting, Withdrawn}
use Rattle.vet_item_rows.specs.DeskRows.{assigned_member, member_row, review_row}
use Rattle.vet_item_rows.specs.HeldValues.{IsReview, IsReviewState}
use Rattle.vet_item_rows.specs.Values.{IsName}
use Rattle.vet_rows.specs.DeskRows.{rows_of_desk}
use Rattle.vet_store.proofs.HeldTexts.{name_text, no_text, package_text, version_is_text}
use Rattle.vet_store.proofs.RowTexts.{AreTold, each_row}
use Rattle.vet_tables.specs.Cells.{Row}
use Rattle.vet_tables.specs.declared.table_name.DeskTable.{DeskTable}
use Rattle.vet_tables.specs.declared.table_name.DeskTable.TheVariants.{Members, Reviews}

member_told : (n : Name) → IsName n → AreTold (member_row n)
member_told n h = (name_text n h, tt)

assigned_text : (state : ReviewState) → IsReviewState state → IsUtf8 (assigned_member state)
assigned_text Waiting h = no_text
assigned_text (Assigned member) h = name_text member h
assigned_text (Finished entry) h = no_text
assigned_text Withdrawn h = no_text

review_told : (r : Review) → IsReview r → AreTold (review_row r)
review_told r h = (
  tt,
  (
    package_text r.«package» h.of_package,
    (
      version_is_text r.version h.version,
      (tt, (tt, (tt, (assigned_text r.state h.state, (tt, tt))))),
    ),
  ),
)

pub desk_told : (desk : DeskState) → All IsName desk.members → All IsReview desk.reviews → (t : DeskTable) (r : Row)
    → IsIn r (rows_of_desk desk t) → AreTold r
desk_told desk members reviews Members r i = each_row IsName member_row member_told desk.members members r i
desk_told desk members reviews Reviews r i = each_row IsReview review_row review_told desk.reviews reviews r i
