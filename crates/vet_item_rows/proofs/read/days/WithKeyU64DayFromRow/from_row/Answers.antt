use Rattle.std.proofs.Common.{◌≡◌, rules}
use Rattle.vet_item_rows.proofs.read.days.WithKeyU64DayFromRow.from_row.Goals as goal

pub returns : goal.returns
returns c x stands =
    let number : c.in_ok-number.number ≡ x.key = search rules in
    let day : c.in_ok-day.day ≡ x.item = search rules in
    λ i. record { key = number i; item = day i }
