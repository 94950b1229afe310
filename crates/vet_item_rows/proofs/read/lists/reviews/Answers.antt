use Rattle.std.proofs.Common.{refl}
use Rattle.vet_item_rows.specs.DeskRows.{review_row}
use Rattle.vet_item_rows.specs.HeldValues.{IsReview}
use Rattle.vet_item_rows.proofs.Reading.{passed_on}
use Rattle.vet_item_rows.proofs.SetsRead.{items_read, they_stand}
use Rattle.vet_item_rows.proofs.read.lists.reviews.Goals as goal

pub returns-in_err-reviews : goal.returns-in_err-reviews
returns-in_err-reviews c list up held same =
    let stand = they_stand IsReview review_row c.args.rows.now list held same in
    rw (passed_on c.from_residual.result c.in_err-reviews.field-0.0 c.from_residual.ensures.1
    (c.in_err-reviews.ensures stand.0 stand.1)) refl

pub returns : goal.returns
returns c list up held same =
    c.in_ok-rank.ensures list up
    (items_read IsReview review_row c.args.rows.now list held same c.in_ok-reviews.reviews.items
    c.in_ok-reviews.ensures)
