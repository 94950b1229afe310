-- The packages of the entries so far.
use Rattle.std.proofs.Common.{◌≡◌, ◌++◌, map, take}
use Rattle.vet_register.specs.Touches.{entry_package}
use Rattle.vet_register.proofs.touching.push_of_entries.Given as goal

abbrev pub invariant-loop-entry : goal.invariant-loop-entry
invariant-loop-entry l = l.names.items ≡ l.fn.names.items ++ map entry_package (take l.entry-index l.entries)
