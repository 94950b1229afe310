use Rattle.std.proofs.Common.{◌≡◌, take}
use Rattle.std.specs.List.{filter_map}
use Rattle.vet_register.specs.HeldFiles.{further_at}
use Rattle.vet_register.proofs.held_files.further_named.Given as goal

abbrev pub invariant-names : goal.invariant-names
invariant-names l = l.copies.items ≡ filter_map (further_at l.table) (take l.name-index l.names)
