-- The packages of the groups so far.
use Rattle.std.proofs.Common.{◌≡◌, ◌++◌}
use Rattle.vet_item_rows.specs.ReadRecords.{IsGroupOfPackage}
use Rattle.vet_item_rows.proofs.Reading.{AreThose}
use Rattle.vet_item_rows.proofs.read.records.packages_of.Given as goal

abbrev pub invariant-groups : goal.invariant-groups
invariant-groups l =
    (goal.iterator-groups).can_next l.group-iterator
    × (goal.iterator-groups).is_finite l.group-iterator
    × (l.fn.groups.items ≡ l.yielded ++ l.group-iterator.rest.items)
    × AreThose IsGroupOfPackage l.yielded l.packages.items
