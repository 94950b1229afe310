-- The rows of the packages so far.
use Rattle.std.proofs.Common.{◌≡◌, take}
use Rattle.std.specs.List.{flat_map}
use Rattle.vet_item_rows.specs.EntryRows.{package_rows}
use Rattle.vet_item_rows.proofs.rows_of.entry_rows.all_publishers.Given as goal

abbrev pub invariant-packages : goal.invariant-packages
invariant-packages l = l.rows.items ≡ flat_map package_rows (take l.held-index l.packages)
