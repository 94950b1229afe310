use Rattle.std.proofs.Common.{◌≡◌, take}
use Rattle.std.specs.FinSet as set
use Rattle.vet_base.specs.Criteria.{placed}
use Rattle.vet_base.proofs.definitions.Definitions.places.Given as goal

abbrev pub invariant-loop-name : goal.invariant-loop-name
invariant-loop-name l = l.places ≡ placed l.self (set.from_list (take l.name-index l.names))
