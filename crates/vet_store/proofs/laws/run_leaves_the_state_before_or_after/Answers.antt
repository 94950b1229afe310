use Rattle.vet_store.proofs.Found.{run_leaves}
use Rattle.vet_store.proofs.laws.run_leaves_the_state_before_or_after.Goals as goal

pub returns : goal.returns
returns g c = run_leaves g.S.Store
