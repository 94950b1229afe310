use Rattle.std.proofs.Common.{◌∙◌, refl}
use Rattle.vet_item_rows.proofs.Reading.{passed_on}
use Rattle.vet_item_rows.proofs.SetsRead.{items_read, they_stand}
use Rattle.vet_rows.specs.HeldValues.{IsRecordedMove}
use Rattle.vet_rows.specs.StandingRows.{move_row}
use Rattle.vet_rows.proofs.MovesRead.{ranked_moves}
use Rattle.vet_rows.proofs.read.moves.moves.Goals as goal

pub returns-in_err-moves : goal.returns-in_err-moves
returns-in_err-moves c list up held same =
    let stand = they_stand IsRecordedMove move_row c.args.rows.now list held same in
    rw (passed_on c.from_residual.result c.in_err-moves.field-0.0 c.from_residual.ensures.1
    (c.in_err-moves.ensures stand.0 stand.1)) refl

pub returns : goal.returns
returns c list up held same =
    c.in_ok-recorded_moves.ensures ∙ c.in_ok-rank.ensures list (ranked_moves list up)
    (items_read IsRecordedMove move_row c.args.rows.now list held same c.in_ok-moves.moves.items c.in_ok-moves.ensures)
