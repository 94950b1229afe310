-- How many rows there were, and which of them have no mark.
use Rattle.std.proofs.Common.{◌≡◌, length}
use Rattle.vet_rows.specs.RowExchanges.{unmarked}
use Rattle.vet_rows.proofs.row_changes.difference.unmarked.Given as goal

abbrev pub invariant-rows : goal.invariant-rows
invariant-rows g l = (l.at ≡ length l.yielded) × (l.left.items ≡ unmarked l.yielded l.marks)
