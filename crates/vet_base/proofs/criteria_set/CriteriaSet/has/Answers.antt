use Rattle.vet_base.specs.declared.limits.TheConstants.{MOST_CRITERIA as most}
use Rattle.std.proofs.Common.{sym, ap, ◌∙◌, ◌==◌}
use Rattle.std.proofs.lemmas.Bool.{le-ltb}
use Rattle.std.proofs.lemmas.Nat.Bits.{shr_and_one, bit_at_above}
use Rattle.vet_base.proofs.Bits.{tells}
use Rattle.vet_base.proofs.criteria_set.CriteriaSet.has.Goals as goal

pub returns-then-place-lt-MOST_CRITERIA-clause-value : goal.returns-then-place-lt-MOST_CRITERIA-clause-value
returns-then-place-lt-MOST_CRITERIA-clause-value c =
    ap (λ x. x == 1) (shr_and_one c.self.inside.word c.args.place)
    ∙ sym (tells most c.self.inside.word c.args.self.now c.self.invariant c.self.view_is c.args.place)

pub returns-else-place-lt-MOST_CRITERIA-clause-value : goal.returns-else-place-lt-MOST_CRITERIA-clause-value
returns-else-place-lt-MOST_CRITERIA-clause-value c =
    let past = c.if-place-lt-MOST_CRITERIA.false in
    le-ltb c.args.place most past
    ∙ sym (tells most c.self.inside.word c.args.self.now c.self.invariant c.self.view_is c.args.place
    ∙ ap (λ x. x == 1) (bit_at_above c.self.inside.word most c.args.place c.self.invariant past))
