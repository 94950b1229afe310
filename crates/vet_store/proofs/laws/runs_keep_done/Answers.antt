use Rattle.vet_store.proofs.Running.{runs_keep_done}
use Rattle.vet_store.proofs.laws.runs_keep_done.Goals as goal

pub returns : goal.returns
returns c = runs_keep_done
