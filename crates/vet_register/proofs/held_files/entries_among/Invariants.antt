use Rattle.std.proofs.Common.{◌≡◌, take}
use Rattle.vet_register.specs.HeldFiles.{spoken}
use Rattle.vet_register.proofs.held_files.entries_among.Given as goal

abbrev pub invariant-entries : goal.invariant-entries
invariant-entries l = l.copies.items ≡ spoken (take l.it-index l.held)
