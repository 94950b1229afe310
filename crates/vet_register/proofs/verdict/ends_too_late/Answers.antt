use Rattle.std.proofs.Common.{refl, sym, subst}
use Rattle.std.specs.Int.Signed.{◌≤ℤ◌}
use Rattle.std.specs.Prelude.{◌+ℤ◌, pos}
use Rattle.vet_base.specs.declared.limits.TheConstants.{LAST_DAY_NUMBER, MOST_WINDOW_DAYS}
use Rattle.vet_base.specs.Day.{day_number}
use Rattle.vet_register.proofs.Publishing.{not_before}
use Rattle.vet_register.proofs.verdict.ends_too_late.Goals as goal

pub returns-in-None : goal.returns-in-None
returns-in-None c =
    let within = subst (λ z. z ≤ℤ LAST_DAY_NUMBER) c.number-number.ensures.value c.number-number.ensures.range.1 in
    sym (not_before LAST_DAY_NUMBER (day_number c.args.day +ℤ pos MOST_WINDOW_DAYS) (day_number c.args.last)
    (c.in-None.ensures.past.0 refl) within)
