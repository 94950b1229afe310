use Rattle.vet_graph.proofs.Balance.{arrivals-append, departures-append}
use Rattle.vet_graph.proofs.laws.runs_of_moves_add.Goals as goal

pub returns : goal.returns
returns c = record { arrivals = arrivals-append; departures = departures-append }
