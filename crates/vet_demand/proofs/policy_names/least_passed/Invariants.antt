-- The least of what the items so far list.
use Rattle.std.proofs.Common.{◌≡◌, take}
use Rattle.std.specs.Option.{option_copied}
use Rattle.vet_base.specs.Criteria.{least_unknown}
use Rattle.vet_demand.specs.PolicyNames.{names_passed}
use Rattle.vet_demand.proofs.policy_names.least_passed.Given as goal

abbrev pub invariant-items : goal.invariant-items
invariant-items l = option_copied l.least ≡ least_unknown l.criteria (names_passed (take l.item-index l.items))
