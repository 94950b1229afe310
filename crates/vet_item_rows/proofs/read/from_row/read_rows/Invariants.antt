-- The values of the rows so far.
use Rattle.std.proofs.Common.{take}
use Rattle.vet_item_rows.proofs.Reading.{AreThose}
use Rattle.vet_item_rows.proofs.read.from_row.read_rows.Given as goal

abbrev pub invariant-rows : goal.invariant-rows
invariant-rows g l = AreThose g.T.FromRow.stands_for (take l.row-index l.rows) l.values.items
