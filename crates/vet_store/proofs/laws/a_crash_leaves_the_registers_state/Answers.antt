use Rattle.vet_store.proofs.Found.{tied_leaves}
use Rattle.vet_store.proofs.laws.a_crash_leaves_the_registers_state.Goals as goal

pub returns : goal.returns
returns g c = tied_leaves g.S.Store g.met.S.Store.settled
