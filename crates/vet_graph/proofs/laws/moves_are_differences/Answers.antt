use Rattle.vet_graph.proofs.Differences.{are_moves}
use Rattle.vet_graph.proofs.laws.moves_are_differences.Goals as goal

pub returns : goal.returns
returns c = are_moves
