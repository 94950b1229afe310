-- The number is still to be found among the entries at the places that are left.
use Rattle.std.proofs.Common.{◌≡◌, drop}
use Rattle.vet_entries.specs.ByPackage.{gathered}
use Rattle.vet_entries.specs.Numbered.{number_of}
use Rattle.vet_entries.proofs.facts.EntryFacts.number_of.Given as goal

abbrev pub invariant-loop-place : goal.invariant-loop-place
invariant-loop-place l = number_of (gathered l.entries (drop l.place-index l.place-items)) l.entry
    ≡ number_of (gathered l.entries l.place-items) l.entry
