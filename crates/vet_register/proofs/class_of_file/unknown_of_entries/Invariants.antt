-- The least of the one handed in and of the entries so far.
use Rattle.std.proofs.Common.{◌≡◌, take}
use Rattle.std.specs.FinSet as set
use Rattle.std.specs.Option.{option_copied}
use Rattle.vet_register.specs.NamesOfFiles.{unknown_of_entries}
use Rattle.vet_register.proofs.class_of_file.unknown_of_entries.Given as goal

abbrev pub invariant-loop-entry : goal.invariant-loop-entry
invariant-loop-entry l = option_copied l.least ≡ unknown_of_entries (set.contains l.known) (option_copied l.first)
    (take l.entry-index l.entries)
