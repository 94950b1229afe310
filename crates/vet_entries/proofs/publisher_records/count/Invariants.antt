-- The records of the packages so far.
use Rattle.std.proofs.Common.{◌≡◌, take}
use Rattle.vet_entries.specs.PublisherRecords.{records_total}
use Rattle.vet_entries.proofs.publisher_records.count.Given as given

abbrev pub invariant-packages : given.invariant-packages
invariant-packages l = l.total ≡ records_total (take l.held-index l.fn.packages)
