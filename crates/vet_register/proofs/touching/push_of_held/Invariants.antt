-- The packages of the entries so far.
use Rattle.std.proofs.Common.{◌≡◌, ◌++◌, map, take}
use Rattle.vet_register.specs.Touches.{held_package}
use Rattle.vet_register.proofs.touching.push_of_held.Given as goal

abbrev pub invariant-loop-held : goal.invariant-loop-held
invariant-loop-held l = l.names.items ≡ l.fn.names.items ++ map held_package (take l.held-index l.entries)
