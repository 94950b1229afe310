-- Those so far.
use Rattle.std.proofs.Common.{take}
use Rattle.vet_rows.specs.KeyTexts.{PairsAreRead}
use Rattle.vet_rows.proofs.row_changes.key_texts.pairs_are_read.Given as goal

abbrev pub invariant-pairs : goal.invariant-pairs
invariant-pairs l = PairsAreRead (take l.pair-index l.pairs)
