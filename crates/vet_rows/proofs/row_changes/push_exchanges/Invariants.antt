-- The changes that were there, and those of the exchanges so far.
use Rattle.std.proofs.Common.{◌≡◌, ◌++◌}
use Rattle.std.specs.List.{flat_map}
use Rattle.vet_rows.specs.RowExchanges.{row_changes_of}
use Rattle.vet_rows.proofs.row_changes.push_exchanges.Given as goal

abbrev pub invariant-exchanges : goal.invariant-exchanges
invariant-exchanges l = l.changes.items ≡ l.initial.changes.items ++ flat_map row_changes_of l.yielded
