-- The room that the records so far leave.
use Rattle.std.proofs.Common.{◌≡◌, ◌+◌, take}
use Rattle.vet_entries.specs.PublisherRecords.{records_total}
use Rattle.vet_files.proofs.files_content.has_more_records.Given as goal

abbrev pub invariant-packages : goal.invariant-packages
invariant-packages l = l.room + records_total (take l.held-index l.packages) ≡ l.most
