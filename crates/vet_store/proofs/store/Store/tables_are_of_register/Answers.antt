use Rattle.std.proofs.Common.{subst}
use Rattle.sqlite.specs.Held.{state}
use Rattle.vet_rows.specs.RowsOf.{rows_of}
use Rattle.vet_store.specs.StoreView.{StoreView}
use Rattle.vet_store.specs.Tied.{IsTied}
use Rattle.vet_store.proofs.store.Store.tables_are_of_register.Goals as goal

pub returns : goal.returns
returns g c =
    subst (λ (v : StoreView _ _). IsTied (state g.S.Store v.conn) v.shut (rows_of v.register.state)) c.self.view_is
    c.self.invariant
