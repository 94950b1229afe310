use Rattle.std.proofs.Common.{◌∙◌, FitsSigned, Some, arith, ap, sym, w64}
use Rattle.std.proofs.lemmas.Int.{to_z-of_z}
use Rattle.std.proofs.lemmas.Bool.{false≢true}
use Rattle.jiff_core.proofs.SignedLemmas.{signed_arith}
use Rattle.vet_base.proofs.DayLemmas.{day_number_injective, day_number_range, year_from_0}
use Rattle.vet_base.proofs.day.Day.of_number.Goals as goal

pub from_date-requires : goal.from_date-requires
from_date-requires c =
    year_from_0 c.in-Ok.date
    (omega (arith, signed_arith, c.in-Ok.ensures.value, c.if-number-from.false, c.from.ensures))

pub returns-then-number-from-clause-only : goal.returns-then-number-from-clause-only
returns-then-number-from-clause-only c d is e =
    let range = day_number_range d is in
    absurd (omega (arith, signed_arith, e, c.if-number-from.true, c.from.ensures))

pub returns-in-Ok-clause-only : goal.returns-in-Ok-clause-only
returns-in-Ok-clause-only c d is e =
    let range = day_number_range d is in
    let fits : FitsSigned w64 c.args.number = omega (arith, signed_arith, e) in
    ap Some (day_number_injective c.from_date.result d c.from_date.ensures.day is
    (c.from_date.ensures.number ∙ c.in-Ok.ensures.value ∙ to_z-of_z w64 c.args.number fits ∙ sym e))

pub returns-in-Err-clause-only : goal.returns-in-Err-clause-only
returns-in-Err-clause-only c d is e =
    let range = day_number_range d is in
    absurd (false≢true (c.in-Err.ensures.succeeds.1 (omega (arith, signed_arith, e), omega (arith, signed_arith, e))))
