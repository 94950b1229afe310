-- The new entries so far, with their numbers.
use Rattle.std.proofs.Common.{◌≡◌, ◌+◌, ◌++◌, Bool, length, map, take}
use Rattle.std.specs.List.{filter}
use Rattle.vet_entries.specs.declared.entry.Entry.{Entry}
use Rattle.vet_entries.specs.Numbered.{numbered}
use Rattle.vet_entries.specs.Replaced.{as_of}
use Rattle.vet_entries.proofs.import.add.Given as goal

abbrev pub invariant-entries : goal.invariant-entries
invariant-entries l =
    (l.number ≡ l.next + length (filter (λ b. b) (take l.place l.fresh)))
    × ((is_new : Entry → Bool) → l.fresh ≡ map is_new (as_of l.source l.entries)
    → l.held.items ≡ l.fn.held.items ++ numbered l.next (filter is_new (as_of l.source (take l.place l.entries))))
