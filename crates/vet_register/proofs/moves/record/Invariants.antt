-- The records of the moves so far.
use Rattle.std.proofs.Common.{◌≡◌, map, take}
use Rattle.vet_register.specs.Machine.{recorded}
use Rattle.vet_register.proofs.moves.record.Given as goal

abbrev pub invariant-loop-change : goal.invariant-loop-change
invariant-loop-change l = l.records.items ≡ map (recorded l.step l.day) (take l.change-index l.moves)
