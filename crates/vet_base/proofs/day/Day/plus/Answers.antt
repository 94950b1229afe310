use Rattle.std.proofs.Common.{◌<◌, ◌^◌, ◌∙◌, refl, sym, arith}
use Rattle.std.proofs.lemmas.Bool.{false≢true}
use Rattle.vet_base.proofs.DayLemmas.{later_year, not_past, past_last, sum_passed}
use Rattle.vet_base.proofs.day.Day.plus.Goals as goal

pub from_date-requires : goal.from_date-requires
from_date-requires c =
    let small : c.args.days < 2 ^ 32 = omega arith in
    let sum = sum_passed _ _ c.args.days c.from.result c.date.ensures.value c.from.ensures small in
    later_year c.args.self c.args.days c.in-Ok.date c.date.ensures.day (c.in-Ok.ensures.value ∙ sum)

pub returns-in-Ok : goal.returns-in-Ok
returns-in-Ok c =
    let small : c.args.days < 2 ^ 32 = omega arith in
    let sum = sum_passed _ _ c.args.days c.from.result c.date.ensures.value c.from.ensures small in
    let later = c.in-Ok.ensures.value ∙ sum in
    record {
      past = (λ never. absurd (false≢true (sym never)), λ past. absurd (not_past _ c.in-Ok.date later past));
      number = c.from_date.ensures.number ∙ later;
    }

pub returns-in-Err-clause-past : goal.returns-in-Err-clause-past
returns-in-Err-clause-past c =
    let small : c.args.days < 2 ^ 32 = omega arith in
    let sum = sum_passed _ _ c.args.days c.from.result c.date.ensures.value c.from.ensures small in
    let none = (rw sum at c.in-Err.ensures.succeeds).1 in
    (λ _. past_last c.args.self c.args.days c.date.ensures.day (λ within. false≢true (none within)), λ _. refl)
