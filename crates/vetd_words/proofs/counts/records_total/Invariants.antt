-- What the loop over all packages keeps: the total of those before the turn.
use Rattle.std.proofs.Common.{◌≡◌, take}
use Rattle.vet_entries.specs.PublisherRecords.{records_total}
use Rattle.vetd_words.proofs.counts.records_total.Given as goal

abbrev pub invariant-packages : goal.invariant-packages
invariant-packages l = l.total ≡ records_total (take l.held-index l.packages)
