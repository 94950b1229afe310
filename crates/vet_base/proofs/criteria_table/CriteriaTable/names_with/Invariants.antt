use Rattle.std.proofs.Common.{◌≡◌, take}
use Rattle.vet_base.proofs.DefinedTables.{built_in_names, with_names}
use Rattle.vet_base.proofs.criteria_table.CriteriaTable.names_with.Given as goal

abbrev pub invariant-loop-criterion : goal.invariant-loop-criterion
invariant-loop-criterion l = l.known ≡ with_names built_in_names (take l.criterion-index l.fn.criteria)
