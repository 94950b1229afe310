use Rattle.std.proofs.Common.{◌≡◌, rules}
use Rattle.vet_rows.proofs.read.moves.OrderedMoveFromRow.from_row.Goals as goal

pub returns-in_err-day : goal.returns-in_err-day
returns-in_err-day c m stands = cc (c.in_err-day.ensures.read m.day (search rules) (search rules))

pub returns : goal.returns
returns c m stands =
    let step : c.in_ok-number.field-0 ≡ m.step = search rules in
    let day : c.in_ok-day.field-0 ≡ m.day = search rules in
    let change : c.in_ok-change.field-0 ≡ m.change = search rules in
    λ i. record { step = step i; day = day i; change = change i }
