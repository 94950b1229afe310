use Rattle.vet_base.specs.declared.limits.TheConstants.{MOST_CRITERIA as most}
use Rattle.std.proofs.Common.{sym, ◌∙◌, ◌||◌}
use Rattle.std.specs.FinSet as set
use Rattle.std.specs.Cmp.{nat_cmp_total}
use Rattle.std.proofs.lemmas.Nat.{or_lt}
use Rattle.vet_base.proofs.Bits.{tells, is_set, or_bits}
use Rattle.vet_base.proofs.criteria_set.CriteriaSet.union.Goals as goal

pub invariant_of-result : goal.invariant_of-result
invariant_of-result c = or_lt most _ _ c.self.invariant c.other.invariant

pub returns : goal.returns
returns c = is_set most _ _ (or_lt most _ _ c.self.invariant c.other.invariant) (λ q.
    or_bits c.self.inside.word c.other.inside.word q
    ∙ (λ i. sym (tells most c.self.inside.word c.args.self.now c.self.invariant c.self.view_is q) i
    || sym (tells most c.other.inside.word c.args.other.now c.other.invariant c.other.view_is q) i)
    ∙ sym (set.contains-union nat_cmp_total c.args.self.now c.args.other.now q))
