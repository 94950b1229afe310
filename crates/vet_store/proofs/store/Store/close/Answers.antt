use Rattle.std.proofs.Common.{subst}
use Rattle.sqlite.specs.Held.{state}
use Rattle.vet_rows.specs.RowsOf.{rows_of}
use Rattle.vet_store.specs.StoreView.{StoreView}
use Rattle.vet_store.specs.Tied.{IsTied}
use Rattle.vet_store.proofs.store.Store.close.Goals as goal

pub returns-clause-tables : goal.returns-clause-tables
returns-clause-tables g c =
    let conn = state g.S.Store c.self.inside.conn in
    subst (λ (v : StoreView _ _). IsTied conn v.shut (rows_of v.register.state)) c.self.view_is c.self.invariant
