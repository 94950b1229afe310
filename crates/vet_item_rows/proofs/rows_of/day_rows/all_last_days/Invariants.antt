-- The rows of the last days of the entries so far.
use Rattle.std.proofs.Common.{◌≡◌, take}
use Rattle.std.specs.List.{flat_map}
use Rattle.vet_item_rows.specs.DayRows.{last_rows}
use Rattle.vet_item_rows.proofs.rows_of.day_rows.all_last_days.Given as goal

abbrev pub invariant-entries : goal.invariant-entries
invariant-entries l = l.rows.items ≡ flat_map last_rows (take l.held-index l.entries)
