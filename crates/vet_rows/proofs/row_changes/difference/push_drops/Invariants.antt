-- The changes that were there, and those of the rows so far.
use Rattle.std.proofs.Common.{◌≡◌, ◌++◌, map}
use Rattle.vet_rows.specs.declared.row_change.RowChange.TheVariants as change
use Rattle.vet_rows.proofs.row_changes.difference.push_drops.Given as goal

abbrev pub invariant-rows : goal.invariant-rows
invariant-rows l = l.changes.items ≡ l.initial.changes.items ++ map (λ r. change.Drop l.table r) l.yielded
