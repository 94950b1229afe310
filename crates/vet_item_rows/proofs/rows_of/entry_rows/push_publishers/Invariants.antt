-- The rows that were there, and those of the records so far.
use Rattle.std.proofs.Common.{◌≡◌, ◌++◌, map, take}
use Rattle.vet_item_rows.specs.EntryRows.{publisher_row}
use Rattle.vet_item_rows.proofs.rows_of.entry_rows.push_publishers.Given as goal

abbrev pub invariant-records : goal.invariant-records
invariant-records l =
    l.rows.items
    ≡ l.initial.rows.items ++ map (publisher_row l.held.«package») (take l.publisher-index l.held.publishers)
