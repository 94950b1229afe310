use Rattle.std.proofs.Common.{◌≡◌, take}
use Rattle.std.specs.List.{filter}
use Rattle.vet_register.specs.HeldFiles.{is_audit, unnumbered}
use Rattle.vet_register.proofs.held_files.audits_among.Given as goal

abbrev pub invariant-entries : goal.invariant-entries
invariant-entries l = l.copies.items ≡ filter is_audit (unnumbered (take l.it-index l.held))
