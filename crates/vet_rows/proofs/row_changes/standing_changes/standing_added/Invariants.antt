-- The rows of the moves so far.
use Rattle.std.proofs.Common.{◌≡◌, filter, map, take}
use Rattle.vet_rows.specs.StandingChanges.{stands, moved_row}
use Rattle.vet_rows.proofs.row_changes.standing_changes.standing_added.Given as goal

abbrev pub invariant-moves : goal.invariant-moves
invariant-moves l = l.rows.items ≡ map moved_row (filter stands (take l.recorded-index l.moves))
