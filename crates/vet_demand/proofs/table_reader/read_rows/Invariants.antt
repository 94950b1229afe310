-- The rows so far are taken.
use Rattle.vet_demand.proofs.ReadingLemmas.{RowsSoFar}
use Rattle.vet_demand.proofs.table_reader.read_rows.Given as goal

abbrev pub invariant-rows : goal.invariant-rows
invariant-rows l = RowsSoFar l.initial.reader l.fn.most l.initial.table l.turn l.reader l.table
