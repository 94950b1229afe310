-- How many of the pairs so far stand in the class.
use Rattle.std.proofs.Common.{◌≡◌, take}
use Rattle.vet_graph.specs.Standing.{count_of}
use Rattle.vet_graph.proofs.standing.count.Given as goal

abbrev pub invariant-loop-stand : goal.invariant-loop-stand
invariant-loop-stand l = l.count ≡ count_of l.class (take l.stand-index l.standing)
