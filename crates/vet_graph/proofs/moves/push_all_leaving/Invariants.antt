-- The moves of the pairs so far.
use Rattle.std.proofs.Common.{◌≡◌, ◌++◌, map, take}
use Rattle.vet_graph.specs.Moves.{leaves}
use Rattle.vet_graph.proofs.moves.push_all_leaving.Given as goal

abbrev pub invariant-loop-stand : goal.invariant-loop-stand
invariant-loop-stand l = l.moves.items ≡ l.fn.moves.items ++ map leaves (take l.stand-index l.standing)
