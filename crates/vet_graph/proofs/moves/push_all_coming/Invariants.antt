-- The moves of the pairs so far.
use Rattle.std.proofs.Common.{◌≡◌, ◌++◌, map, take}
use Rattle.vet_graph.specs.Moves.{comes}
use Rattle.vet_graph.proofs.moves.push_all_coming.Given as goal

abbrev pub invariant-loop-stand : goal.invariant-loop-stand
invariant-loop-stand l = l.moves.items ≡ l.fn.moves.items ++ map comes (take l.stand-index l.standing)
