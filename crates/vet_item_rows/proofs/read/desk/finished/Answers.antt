use Rattle.std.proofs.Common.{◌≡◌, ◌∙◌, rules}
use Rattle.vet_desk.specs.declared.review.ReviewState.TheVariants.{Finished}
use Rattle.vet_item_rows.specs.DeskRows.{finishing_entry}
use Rattle.vet_item_rows.proofs.CellsRead.{column, place}
use Rattle.vet_item_rows.proofs.DesksRead.{code_is, finished}
use Rattle.vet_item_rows.proofs.read.desk.finished.Goals as goal

pub returns-in_err-int_at : goal.returns-in_err-int_at
returns-in_err-int_at c r is state = cc (c.in_err-int_at.ensures (finishing_entry r.state) (place 7 is))

pub returns-in_err-number : goal.returns-in_err-number
returns-in_err-number c r is state =
    let one = finished r.state (code_is r.state 2 state) in
    let int7 = column c.in_ok-int_at.field-0 (finishing_entry r.state) (search rules)
    (c.in_ok-int_at.ensures (finishing_entry r.state) (place 7 is)) in
    cc (c.in_err-number.ensures.read one.0 (int7 ∙ one.1.0))

pub returns : goal.returns
returns c r is state =
    let one = finished r.state (code_is r.state 2 state) in
    let int7 = column c.in_ok-int_at.field-0 (finishing_entry r.state) (search rules)
    (c.in_ok-int_at.ensures (finishing_entry r.state) (place 7 is)) in
    let entry : c.in_ok-number.field-0 ≡ one.0 = cc (c.in_ok-number.ensures.read one.0 (int7 ∙ one.1.0)) in
    (λ i. Finished (entry i)) ∙ one.1.1
