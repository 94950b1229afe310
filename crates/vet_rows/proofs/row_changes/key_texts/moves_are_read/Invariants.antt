-- Those so far.
use Rattle.std.proofs.Common.{take}
use Rattle.vet_rows.specs.KeyTexts.{MovesAreRead}
use Rattle.vet_rows.proofs.row_changes.key_texts.moves_are_read.Given as goal

abbrev pub invariant-moves : goal.invariant-moves
invariant-moves l = MovesAreRead (take l.recorded-index l.moves)
