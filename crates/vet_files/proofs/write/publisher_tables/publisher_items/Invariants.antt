-- The tables so far are those of the records so far.
use Rattle.std.proofs.Common.{◌≡◌, All, take}
use Rattle.toml.specs.View.{items_view}
use Rattle.vet_files.specs.ImportsTable.{publisher_items}
use Rattle.vet_files.specs.ReadAgain.{ReadsPublisher}
use Rattle.vet_files.proofs.write.publisher_tables.publisher_items.Given as goal

abbrev pub invariant-records : goal.invariant-records
invariant-records l = record {
  items : items_view l.tables.items ≡ publisher_items (take l.publisher-index l.records);
  read : All ReadsPublisher (take l.publisher-index l.records);
}
