-- The least of what the items so far list.
use Rattle.std.proofs.Common.{◌≡◌, take}
use Rattle.std.specs.Option.{option_copied}
use Rattle.vet_base.specs.Criteria.{least_unknown}
use Rattle.vet_entries.specs.CriteriaMap.{by_name}
use Rattle.vet_entries.specs.Mapped.{all_targets}
use Rattle.vet_entries.proofs.criteria_map.CriteriaMap.least_target_outside.Given as goal

abbrev pub invariant-loop-item : goal.invariant-loop-item
invariant-loop-item l = option_copied l.least
    ≡ least_unknown l.table (all_targets (by_name (take l.item-index l.item-items)))
