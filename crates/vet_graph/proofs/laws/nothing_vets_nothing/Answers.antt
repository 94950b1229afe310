use Rattle.std.proofs.Common.{refl}
use Rattle.vet_graph.proofs.Standings.{none_is_vetted}
use Rattle.vet_graph.proofs.laws.nothing_vets_nothing.Goals as goal

pub returns-clause-vets : goal.returns-clause-vets
returns-clause-vets c = none_is_vetted

pub returns-clause-gives : goal.returns-clause-gives
returns-clause-gives c = record { steps = λ name. refl; condemned = λ name e v. refl }
