-- Those so far that are one's own, and those of peers.
use Rattle.std.proofs.Common.{◌≡◌}
use Rattle.vet_item_rows.specs.ReadSourced.{of_peers, own_items}
use Rattle.vet_item_rows.proofs.read.sourced.by_source.Given as goal

abbrev pub invariant-items : goal.invariant-items
invariant-items g l =
    (l.own.items ≡ own_items g.T.HasSource.source_of l.yielded)
    × (l.peers.items ≡ of_peers g.T.HasSource.source_of l.yielded)
