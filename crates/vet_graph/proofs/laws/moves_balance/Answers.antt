use Rattle.vet_graph.proofs.Balance.{balanced}
use Rattle.vet_graph.proofs.laws.moves_balance.Goals as goal

pub returns : goal.returns
returns c = balanced
