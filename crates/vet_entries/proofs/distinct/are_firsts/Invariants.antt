-- The entries so far are marked, and what was seen is what they are.
use Rattle.std.proofs.Common.{◌≡◌, [], take}
use Rattle.std.specs.BTreeSet as tree
use Rattle.vet_entries.specs.declared.entry.Entry.{Entry}
use Rattle.vet_entries.specs.EntryOrder.{entry_cmp}
use Rattle.vet_entries.specs.Distinct.{are_firsts}
use Rattle.vet_entries.proofs.Firsts.{has}
use Rattle.vet_entries.proofs.distinct.are_firsts.Given as goal

abbrev pub invariant-entries : goal.invariant-entries
invariant-entries l =
    (l.marks.items ≡ are_firsts [] (take l.entry-index l.fn.entries))
    × ((q : Entry) → tree.contains_by (λ e. entry_cmp q e.now) l.seen ≡ has q (take l.entry-index l.fn.entries))
