use Rattle.std.proofs.Common.{◌≡◌, ℕ, ◌<◌, get_or, true, []}
use Rattle.std.specs.FinMap as map
use Rattle.vet_base.specs.Names.{members}
use Rattle.vet_base.proofs.criteria_table.CriteriaTable.unknown_beside.Given as goal

abbrev pub invariant-loop-name : goal.invariant-loop-name
invariant-loop-name l =
    (k : ℕ) → k < l.name-index
    → map.contains_key (map.insert l.self l.fn.criterion.name l.fn.criterion)
    (get_or (members l.fn.criterion.implies) k []) ≡ true
