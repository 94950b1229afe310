-- The packages of the pairs so far.
use Rattle.std.proofs.Common.{◌≡◌, ◌++◌, map, take}
use Rattle.vet_register.specs.Touches.{pair_package}
use Rattle.vet_register.proofs.touching.push_of_pairs.Given as goal

abbrev pub invariant-loop-pair : goal.invariant-loop-pair
invariant-loop-pair l = l.names.items ≡ l.fn.names.items ++ map pair_package (take l.pair-index l.pairs)
