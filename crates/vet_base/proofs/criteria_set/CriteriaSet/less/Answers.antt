use Rattle.vet_base.specs.declared.limits.TheConstants.{MOST_CRITERIA as most}
use Rattle.std.proofs.Common.{sym, ◌∙◌, ◌&&◌, not}
use Rattle.vet_base.specs.CriteriaSetLaws.{contains-set_places}
use Rattle.vet_base.proofs.Bits.{tells, less_bits, fits}
use Rattle.vet_base.proofs.criteria_set.CriteriaSet.less.Goals as goal

pub invariant_of-result : goal.invariant_of-result
invariant_of-result c = fits c.self.inside.word _ c.self.invariant

pub returns : goal.returns
returns c q =
    contains-set_places most _ q (fits c.self.inside.word _ c.self.invariant)
    ∙ less_bits c.self.inside.word c.other.inside.word q c.self.invariant c.other.invariant
    ∙ (λ i. sym (tells most c.self.inside.word c.args.self.now c.self.invariant c.self.view_is q) i
    && not (sym (tells most c.other.inside.word c.args.other.now c.other.invariant c.other.view_is q) i))
