-- What is kept is each of the entries so far once, and the others are still to come.
use Rattle.std.proofs.Common.{◌≡◌, ◌++◌, length}
use Rattle.vet_entries.specs.Distinct.{distinct}
use Rattle.vet_entries.proofs.distinct.distinct.Given as goal

abbrev pub invariant-entries : goal.invariant-entries
invariant-entries l =
    (goal.iterator-entries).can_next l.entry-iterator
    × (goal.iterator-entries).is_finite l.entry-iterator
    × (l.fn.entries.items ≡ l.yielded ++ l.entry-iterator.rest.items)
    × (l.place ≡ length l.yielded)
    × (l.kept.items ≡ distinct l.yielded)
