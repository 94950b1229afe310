-- The entries of the groups so far.
use Rattle.std.proofs.Common.{◌≡◌, map}
use Rattle.vet_item_rows.specs.DayRows.{entry_of_group}
use Rattle.vet_item_rows.proofs.read.days.entries_of.Given as goal

abbrev pub invariant-groups : goal.invariant-groups
invariant-groups l = l.entries.items ≡ map entry_of_group l.yielded
