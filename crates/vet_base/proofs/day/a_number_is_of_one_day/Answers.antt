use Rattle.std.proofs.Common.{subst, true, ◌≡◌}
use Rattle.vet_base.specs.Day.{is_day}
use Rattle.vet_base.proofs.DayLemmas.{day_number_injective}
use Rattle.vet_base.proofs.day.a_number_is_of_one_day.Goals as goal

pub returns : goal.returns
returns c =
    day_number_injective c.args.a c.args.b (subst (λ d. is_day d ≡ true) c.a.view_is c.a.invariant)
    (subst (λ d. is_day d ≡ true) c.b.view_is c.b.invariant)
