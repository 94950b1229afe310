use Rattle.std.proofs.Common.{◌≡◌, ◌+◌, ◌++◌, ◌∷◌, ◌∙◌, [], ap, refl, sym, take}
use Rattle.std.proofs.lemmas.List.{take_more}
use Rattle.vet_item_rows.proofs.Reading.{each_at, passed_on, read_more}
use Rattle.vet_item_rows.proofs.read.from_row.read_rows.Goals as goal

pub returns-in_err-from_row : goal.returns-in_err-from_row
returns-in_err-from_row g c xs each =
    let one = each_at g.T.FromRow.stands_for c.args.rows.now c.rows.row-index c.row-item.result xs c.rows-test.true
    c.row-item.is each in
    let none = c.in_err-from_row.ensures one.0 one.1 in
    rw (passed_on c.from_residual.result c.in_err-from_row.field-0.0 c.from_residual.ensures.1 none) refl

pub rows-preserved : goal.rows-preserved
rows-preserved g c =
    let rows = c.args.rows.now in
    let i = c.rows.row-index in
    let row = c.row-item.result in
    let more : take (i + 1) rows ≡ take i rows ++ row ∷ [] = take_more rows i row c.rows-test.true
    ∙ ap (λ x. take i rows ++ x ∷ []) (sym c.row-item.is) in
    rw (more, c.in_ok-push.ensures.items)
    (read_more g.T.FromRow.stands_for (take i rows) row c.rows.values.items c.in_ok-from_row.field-0 c.rows.invariant
    c.in_ok-from_row.ensures)
