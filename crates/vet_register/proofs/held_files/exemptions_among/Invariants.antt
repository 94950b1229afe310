use Rattle.std.proofs.Common.{◌≡◌, take}
use Rattle.std.specs.List.{filter}
use Rattle.vet_register.specs.HeldFiles.{is_exemption, unnumbered}
use Rattle.vet_register.proofs.held_files.exemptions_among.Given as goal

abbrev pub invariant-entries : goal.invariant-entries
invariant-entries l = l.copies.items ≡ filter is_exemption (unnumbered (take l.it-index l.held))
