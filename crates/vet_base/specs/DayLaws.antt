-- Equality and order of days (ours).
use Rattle.std.specs.Prelude.{◌≡◌}
use Rattle.std.specs.Bool.{Decides}
use Rattle.std.specs.Cmp.{IsTotalOrder, int_cmp_total, on_total}
use Rattle.std.proofs.Common.{ap}
use Rattle.std.proofs.lemmas.Bool.Decides.{Decides-and, Decides-eqb, Decides-like}
use Rattle.vet_base.specs.Day.{DayValue, day_cmp, day_number, same_day}

pub same_day-Decides : (a b : DayValue) → Decides (same_day a b) (a ≡ b)
same_day-Decides a b =
    Decides-like _ (λ h. λ i. record { year = h.0 i; month = h.1.0 i; day = h.1.1 i })
    (λ e. (ap (λ d. d.year) e, (ap (λ d. d.month) e, ap (λ d. d.day) e)))
    (Decides-and _ _ (Decides-eqb a.year b.year)
    (Decides-and _ _ (Decides-eqb a.month b.month) (Decides-eqb a.day b.day)))

-- their order is total
pub day_total : IsTotalOrder day_cmp
day_total = on_total day_number int_cmp_total
