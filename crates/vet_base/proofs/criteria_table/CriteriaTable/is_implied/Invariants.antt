use Rattle.std.proofs.Common.{◌≡◌, take, false}
use Rattle.std.specs.List.{list_any}
use Rattle.vet_base.specs.CriteriaChanges.{is_user}
use Rattle.vet_base.proofs.criteria_table.CriteriaTable.is_implied.Given as goal

abbrev pub invariant-loop-criterion : goal.invariant-loop-criterion
invariant-loop-criterion l = list_any (is_user l.name) (take l.criterion-index l.criterion-items) ≡ false
