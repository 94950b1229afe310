use Rattle.std.proofs.Common.{◌≡◌, take}
use Rattle.std.specs.FinSet as set
use Rattle.std.specs.Option.{option_copied}
use Rattle.vet_base.specs.Defined.{least_undefined}
use Rattle.vet_base.proofs.criteria_table.CriteriaTable.least_undefined.Given as goal

abbrev pub invariant-loop-criterion : goal.invariant-loop-criterion
invariant-loop-criterion l =
    option_copied l.least ≡ least_undefined (set.contains l.known) (take l.criterion-index l.fn.criteria)
