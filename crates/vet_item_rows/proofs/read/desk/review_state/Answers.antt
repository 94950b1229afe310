use Rattle.std.proofs.Common.{◌≡◌, ◌∙◌, rules, sym}
use Rattle.std.specs.Prelude.{pos}
use Rattle.vet_item_rows.specs.DeskRows.{state_number}
use Rattle.vet_item_rows.proofs.CellsRead.{column, place}
use Rattle.vet_item_rows.proofs.DesksRead.{coded, no_state, state_code, waiting, withdrawn}
use Rattle.vet_item_rows.proofs.read.desk.review_state.Goals as goal

pub returns-in_err-int_at : goal.returns-in_err-int_at
returns-in_err-int_at c r (can, is) = cc (c.in_err-int_at.ensures (state_number r.state) (place 5 is))

pub returns-in_err-state : goal.returns-in_err-state
returns-in_err-state c r (can, is) =
    let int5 = column c.in_ok-int_at.field-0 (state_number r.state) (search rules)
    (c.in_ok-int_at.ensures (state_number r.state) (place 5 is)) in
    cc (c.in_err-state.ensures.read (state_code r.state) (int5 ∙ coded r.state))

pub returns-then-state-eq0 : goal.returns-then-state-eq0
returns-then-state-eq0 c r (can, is) =
    let int5 = column c.in_ok-int_at.field-0 (state_number r.state) (search rules)
    (c.in_ok-int_at.ensures (state_number r.state) (place 5 is)) in
    let code : c.in_ok-state.state ≡ state_code r.state = cc (c.in_ok-state.ensures.read (state_code r.state)
    (int5 ∙ coded r.state)) in
    waiting r.state (sym code ∙ c.if-state-eq0.true)

pub returns-then-state-eq1 : goal.returns-then-state-eq1
returns-then-state-eq1 c r (can, is) =
    let int5 = column c.in_ok-int_at.field-0 (state_number r.state) (search rules)
    (c.in_ok-int_at.ensures (state_number r.state) (place 5 is)) in
    let code : c.in_ok-state.state ≡ state_code r.state = cc (c.in_ok-state.ensures.read (state_code r.state)
    (int5 ∙ coded r.state)) in
    c.assigned.ensures r (can, is) (coded r.state ∙ (λ i. pos ((sym code ∙ c.if-state-eq1.true) i)))

pub returns-then-state-eq2 : goal.returns-then-state-eq2
returns-then-state-eq2 c r (can, is) =
    let int5 = column c.in_ok-int_at.field-0 (state_number r.state) (search rules)
    (c.in_ok-int_at.ensures (state_number r.state) (place 5 is)) in
    let code : c.in_ok-state.state ≡ state_code r.state = cc (c.in_ok-state.ensures.read (state_code r.state)
    (int5 ∙ coded r.state)) in
    c.finished.ensures r is (coded r.state ∙ (λ i. pos ((sym code ∙ c.if-state-eq2.true) i)))

pub returns-then-state-eq3 : goal.returns-then-state-eq3
returns-then-state-eq3 c r (can, is) =
    let int5 = column c.in_ok-int_at.field-0 (state_number r.state) (search rules)
    (c.in_ok-int_at.ensures (state_number r.state) (place 5 is)) in
    let code : c.in_ok-state.state ≡ state_code r.state = cc (c.in_ok-state.ensures.read (state_code r.state)
    (int5 ∙ coded r.state)) in
    withdrawn r.state (sym code ∙ c.if-state-eq3.true)

pub returns : goal.returns
returns c r (can, is) =
    let int5 = column c.in_ok-int_at.field-0 (state_number r.state) (search rules)
    (c.in_ok-int_at.ensures (state_number r.state) (place 5 is)) in
    let code : c.in_ok-state.state ≡ state_code r.state = cc (c.in_ok-state.ensures.read (state_code r.state)
    (int5 ∙ coded r.state)) in
    absurd (no_state r.state c.in_ok-state.state code c.if-state-eq0.false c.if-state-eq1.false c.if-state-eq2.false
    c.if-state-eq3.false)
