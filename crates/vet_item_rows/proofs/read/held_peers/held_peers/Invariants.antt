-- The peers of the groups so far.
use Rattle.std.proofs.Common.{◌≡◌, ◌++◌}
use Rattle.vet_item_rows.specs.ReadPeers.{IsGroupOf}
use Rattle.vet_item_rows.proofs.Reading.{AreThose}
use Rattle.vet_item_rows.proofs.read.held_peers.held_peers.Given as goal

abbrev pub invariant-groups : goal.invariant-groups
invariant-groups l =
    (goal.iterator-groups).can_next l.group-iterator
    × (goal.iterator-groups).is_finite l.group-iterator
    × (l.fn.groups.items ≡ l.yielded ++ l.group-iterator.rest.items)
    × AreThose IsGroupOf l.yielded l.peers.items
