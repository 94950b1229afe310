-- The names of the criteria so far.
use Rattle.std.proofs.Common.{◌≡◌, map, take}
use Rattle.vet_register.specs.NamesOfFiles.{named_alone}
use Rattle.vet_register.proofs.files_verdict.without_implied.Given as goal

abbrev pub invariant-criteria : goal.invariant-criteria
invariant-criteria l = l.bare.items ≡ map named_alone (take l.criterion-index l.criteria)
