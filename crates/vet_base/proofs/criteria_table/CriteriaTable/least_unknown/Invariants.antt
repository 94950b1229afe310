use Rattle.std.proofs.Common.{◌≡◌, ℕ, ◌<◌, get_or, true, []}
use Rattle.std.specs.FinMap as map
use Rattle.vet_base.specs.Names.{members}
use Rattle.vet_base.proofs.criteria_table.CriteriaTable.least_unknown.Given as goal

abbrev pub invariant-loop-name : goal.invariant-loop-name
invariant-loop-name l = (k : ℕ) → k < l.name-index → map.contains_key l.self (get_or (members l.fn.names) k []) ≡ true
