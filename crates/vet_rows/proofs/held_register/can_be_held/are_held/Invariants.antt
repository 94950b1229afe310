-- Those so far.
use Rattle.std.proofs.Common.{take}
use Rattle.std.specs.List.{All}
use Rattle.vet_rows.proofs.held_register.can_be_held.are_held.Given as goal

abbrev pub invariant-values : goal.invariant-values
invariant-values g l = All g.T.CanBeHeld.can_be_held (take l.value-index l.values)
