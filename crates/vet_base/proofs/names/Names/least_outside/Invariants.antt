use Rattle.std.proofs.Common.{◌≡◌, ℕ, ◌<◌, get_or, true, []}
use Rattle.std.specs.FinSet as set
use Rattle.vet_base.specs.Names.{members}
use Rattle.vet_base.proofs.names.Names.least_outside.Given as goal

abbrev pub invariant-loop-name : goal.invariant-loop-name
invariant-loop-name l = (k : ℕ) → k < l.name-index → set.contains l.known (get_or (members l.fn.self) k []) ≡ true
