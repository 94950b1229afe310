use Rattle.vet_base.specs.declared.limits.TheConstants.{MOST_CRITERIA as most}
use Rattle.std.proofs.Common.{arith}
use Rattle.vet_base.proofs.Bits.{none}
use Rattle.vet_base.proofs.criteria_set.CriteriaSet.empty.Goals as goal

pub returns : goal.returns
returns c = none most (omega arith)
