use Rattle.vet_store.proofs.Running.{ran_then}
use Rattle.vet_store.proofs.laws.two_runs_are_one.Goals as goal

pub returns : goal.returns
returns c = ran_then
