use Rattle.vet_graph.proofs.search.search.Goals as goal

pub returns-clause-reached : goal.returns-clause-reached
returns-clause-reached c = rw c.steps.ensures at c.reach.ensures.reached
