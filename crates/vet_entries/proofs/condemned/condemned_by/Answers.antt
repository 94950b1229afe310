use Rattle.std.proofs.Common.{◌∙◌, ap}
use Rattle.std.specs.FinSet.{contains-empty}
use Rattle.std.specs.Ordering.{nat_cmp}
use Rattle.vet_base.specs.CriteriaSet.{has}
use Rattle.vet_entries.proofs.condemned.condemned_by.Goals as goal

pub loop-violation-init : goal.loop-violation-init
loop-violation-init c k = ap (has k) c.empty-condemned.ensures ∙ contains-empty nat_cmp k
