use Rattle.vet_store.proofs.Found.{create_leaves}
use Rattle.vet_store.proofs.laws.create_leaves_nothing_or_the_first_state.Goals as goal

pub returns : goal.returns
returns g c = create_leaves g.S.Store c.nothing_is_demanded.ensures
