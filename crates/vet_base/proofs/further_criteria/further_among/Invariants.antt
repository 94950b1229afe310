use Rattle.std.proofs.Common.{◌≡◌, take}
use Rattle.std.specs.List.{filter}
use Rattle.vet_base.specs.FurtherCriteria.{is_further}
use Rattle.vet_base.proofs.further_criteria.further_among.Given as goal

abbrev pub invariant-criteria : goal.invariant-criteria
invariant-criteria l = l.copies.items ≡ filter is_further (take l.criterion-index l.criteria)
