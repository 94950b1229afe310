-- The rows of the moves so far.
use Rattle.std.proofs.Common.{◌≡◌, filter, map, take}
use Rattle.vet_rows.specs.StandingChanges.{leaves, moved_row}
use Rattle.vet_rows.proofs.row_changes.standing_changes.standing_removed.Given as goal

abbrev pub invariant-moves : goal.invariant-moves
invariant-moves l = l.rows.items ≡ map moved_row (filter leaves (take l.recorded-index l.moves))
