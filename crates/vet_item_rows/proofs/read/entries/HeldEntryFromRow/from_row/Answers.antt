use Rattle.std.proofs.Common.{◌≡◌, refl, rules}
use Rattle.std.specs.Prelude.{pos}
use Rattle.vet_item_rows.proofs.CellsRead.{column, place}
use Rattle.vet_item_rows.proofs.Reading.{passed_on}
use Rattle.vet_item_rows.proofs.read.entries.HeldEntryFromRow.from_row.Goals as goal

pub returns-in_err-int_at : goal.returns-in_err-int_at
returns-in_err-int_at c held (can, is) =
    cc (c.in_err-int_at.ensures (pos held.number) (place 0 is))

pub returns-in_err-number : goal.returns-in_err-number
returns-in_err-number c held (can, is) =
    let int0 = column c.in_ok-int_at.field-0 (pos held.number) (search rules) (c.in_ok-int_at.ensures (pos held.number)
    (place 0 is)) in
    cc (c.in_err-number.ensures.read held.number int0)

pub returns-in_err-entry : goal.returns-in_err-entry
returns-in_err-entry c held (can, is) =
    rw (passed_on c.from_residual-in_err-entry.result c.in_err-entry.field-0.0 c.from_residual-in_err-entry.ensures.1
    (c.in_err-entry.ensures held (can, is))) refl

pub returns : goal.returns
returns c held (can, is) =
    let int0 = column c.in_ok-int_at.field-0 (pos held.number) (search rules) (c.in_ok-int_at.ensures (pos held.number)
    (place 0 is)) in
    let number : c.in_ok-number.field-0 ≡ held.number = cc (c.in_ok-number.ensures.read held.number int0) in
    let entry = c.in_ok-entry.ensures held (can, is) in
    λ i. record { number = number i; entry = entry i }
