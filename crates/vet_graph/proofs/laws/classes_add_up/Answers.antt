use Rattle.vet_graph.proofs.Balance.{total_is_length}
use Rattle.vet_graph.proofs.laws.classes_add_up.Goals as goal

pub returns : goal.returns
returns c = total_is_length
