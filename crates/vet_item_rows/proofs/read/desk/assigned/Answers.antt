use Rattle.std.proofs.Common.{◌∙◌, refl}
use Rattle.vet_desk.specs.declared.review.ReviewState.TheVariants.{Assigned}
use Rattle.vet_item_rows.specs.DeskRows.{assigned_member}
use Rattle.vet_item_rows.proofs.CellsRead.{place}
use Rattle.vet_item_rows.proofs.DesksRead.{assigned, code_is}
use Rattle.vet_item_rows.proofs.Reading.{passed_on}
use Rattle.vet_item_rows.proofs.read.desk.assigned.Goals as goal

pub returns-in_err-text_at : goal.returns-in_err-text_at
returns-in_err-text_at c r (can, is) state = absurd (c.in_err-text_at.ensures (assigned_member r.state) (place 6 is))

pub returns-in_err-name : goal.returns-in_err-name
returns-in_err-name c r (can, is) state =
    let text6 = c.in_ok-text_at.ensures (assigned_member r.state) (place 6 is) in
    let one = assigned r.state (code_is r.state 1 state) can.state in
    rw (passed_on c.from_residual-in_err-name.result c.in_err-name.field-0.0 c.from_residual-in_err-name.ensures.1
    (c.in_err-name.ensures (assigned_member r.state) (one.0, text6))) refl

pub returns : goal.returns
returns c r (can, is) state =
    let text6 = c.in_ok-text_at.ensures (assigned_member r.state) (place 6 is) in
    let one = assigned r.state (code_is r.state 1 state) can.state in
    let name = c.in_ok-name.ensures (assigned_member r.state) (one.0, text6) in
    (λ i. Assigned (name i)) ∙ one.1
