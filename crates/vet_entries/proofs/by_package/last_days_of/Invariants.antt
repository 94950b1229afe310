-- The last days of the entries so far.
use Rattle.std.proofs.Common.{◌≡◌, map, take}
use Rattle.vet_entries.specs.ByPackage.{held_last_number}
use Rattle.vet_entries.proofs.by_package.last_days_of.Given as goal

abbrev pub invariant-loop-held : goal.invariant-loop-held
invariant-loop-held l = l.days.items ≡ map held_last_number (take l.held-index l.entries)
