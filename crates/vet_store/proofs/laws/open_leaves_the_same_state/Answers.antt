use Rattle.vet_store.proofs.Found.{open_leaves}
use Rattle.vet_store.proofs.laws.open_leaves_the_same_state.Goals as goal

pub returns : goal.returns
returns g c = open_leaves g.S.Store
