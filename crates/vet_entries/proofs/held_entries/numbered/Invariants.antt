-- The entries so far with their numbers.
use Rattle.std.proofs.Common.{◌≡◌, length}
use Rattle.vet_entries.specs.Numbered.{numbered}
use Rattle.vet_entries.proofs.held_entries.numbered.Given as goal

abbrev pub invariant-loop-entry : goal.invariant-loop-entry
invariant-loop-entry l =
    (goal.iterator-loop-entry).can_next l.entry-iterator
    × (goal.iterator-loop-entry).is_finite l.entry-iterator
    × (l.held.items ≡ numbered 1 l.yielded)
    × (l.number ≡ length l.yielded)
