-- The violations among the entries so far.
use Rattle.std.proofs.Common.{◌≡◌, take}
use Rattle.std.specs.List.{flat_map}
use Rattle.vet_entries.specs.Condemned.{violation_in}
use Rattle.vet_entries.specs.Taken.{all_sourced}
use Rattle.vet_entries.proofs.package_entries.PackageEntries.violations.Given as goal

abbrev pub invariant-loop-entry : goal.invariant-loop-entry
invariant-loop-entry l = l.violations.items ≡ flat_map (violation_in l.facts.content.criteria)
    (all_sourced l.facts.content.peers (take l.entry-index l.entry-items))
