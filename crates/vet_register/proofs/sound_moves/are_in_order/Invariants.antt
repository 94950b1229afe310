-- The moves so far stand in order.
use Rattle.std.proofs.Common.{◌<◌, ◌-◌, length}
use Rattle.std.specs.List.{AllAdjacentBelow}
use Rattle.vet_register.specs.Sound.{ComesBefore}
use Rattle.vet_register.proofs.sound_moves.are_in_order.Given as goal

abbrev pub invariant-moves : goal.invariant-moves
invariant-moves l = (0 < l.place) × AllAdjacentBelow ComesBefore l.moves l.place

abbrev pub decreases-moves : goal.decreases-moves
decreases-moves l = length l.initial.moves - l.place
