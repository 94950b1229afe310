use Rattle.std.proofs.Common.{◌≡◌, sym, ◌∙◌, ap, arith}
use Rattle.std.proofs.lemmas.Bool.Decides.{nat_tests}
use Rattle.vet_base.specs.Day.{day_number}
use Rattle.vet_base.proofs.DayLemmas.{day_number_injective, same_bits}
use Rattle.vet_base.proofs.day.DayPartialEq.eq.Goals as goal

pub returns-clause-same : goal.returns-clause-same
returns-clause-same c =
    let a = c.number.ensures in
    let b = c.number-2.ensures in (
      λ tied.
          let bits = same_bits c.number.result c.number-2.result a.range b.range (grind (arith, nat_tests, tied)) in
          day_number_injective c.args.self.now c.args.other.now a.day b.day (sym a.value ∙ bits ∙ b.value),
      λ same.
          let number : c.number.result ≡ c.number-2.result = a.value ∙ ap day_number same ∙ sym b.value in
          rw number (grind (arith, nat_tests)),
    )
