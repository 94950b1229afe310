-- The criteria so far, alone.
use Rattle.std.proofs.Common.{◌≡◌, map}
use Rattle.vet_item_rows.specs.ReadPeers.{criterion_in}
use Rattle.vet_item_rows.proofs.read.tables.criteria_in.Given as goal

abbrev pub invariant-sourced : goal.invariant-sourced
invariant-sourced l =
    (goal.iterator-sourced).can_next l.item-iterator
    × (goal.iterator-sourced).is_finite l.item-iterator
    × (l.criteria.items ≡ map criterion_in l.yielded)
