-- The items so far, as those of a criteria-map.
use Rattle.std.proofs.Common.{◌≡◌, map}
use Rattle.vet_item_rows.specs.ReadFacts.{mapped_criterion}
use Rattle.vet_item_rows.proofs.read.peers.mapped.Given as goal

abbrev pub invariant-items : goal.invariant-items
invariant-items l =
    (goal.iterator-items).can_next l.filed-iterator
    × (goal.iterator-items).is_finite l.filed-iterator
    × (l.criteria.items ≡ map mapped_criterion l.yielded)
