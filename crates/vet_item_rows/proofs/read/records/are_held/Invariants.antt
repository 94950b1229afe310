-- The packages so far have records, and not too many.
use Rattle.std.proofs.Common.{◌≡◌, ◌≤◌, take}
use Rattle.std.specs.List.{All}
use Rattle.vet_base.specs.declared.limits.TheConstants.{MOST_PUBLISHERS}
use Rattle.vet_entries.specs.PublisherRecords.{HasAny, records_total}
use Rattle.vet_item_rows.proofs.read.records.are_held.Given as goal

abbrev pub invariant-packages : goal.invariant-packages
invariant-packages l =
    (l.total ≡ records_total (take l.held-index l.packages))
    × ((l.total ≤ MOST_PUBLISHERS) × All HasAny (take l.held-index l.packages))
