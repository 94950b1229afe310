-- What came so far was served, and the whole replies among it are counted.
use Rattle.std.proofs.Common.{◌≡◌, ◌≤◌, IsTrue, List, false, length}
use Rattle.sqlite.specs.Held.{state}
use Rattle.vet_rows.specs.RowsOf.{rows_of}
use Rattle.vet_store.specs.Beside.{OthersStay}
use Rattle.vet_store.specs.Tied.{IsTied}
use Rattle.vetd_program.specs.DoneTurns.{LeavesWhereShut}
use Rattle.vetd_program.specs.Serving.{ServesEach, Turn, clients_of, is_lost, replied}
use Rattle.vetd_program.specs.declared.clients.arrival.Arrival.{Arrival}
use Rattle.vetd_program.proofs.clients.serving.serve_each.Given as goal

abbrev pub invariant-clients : goal.invariant-clients
invariant-clients g l = record {
  few : l.served ≤ l._place;
  tables : IsTied (state g.S.Store l.store.conn) l.store.shut (rows_of l.store.register.state);
  closed : IsTrue l.fn.store.shut → l.store ≡ l.fn.store;
  others : OthersStay (state g.S.Store l.fn.store.conn) (state g.S.Store l.store.conn);
  served : (came : List (Arrival g.row.N-Reader.Denot g.row.N-Writer.Denot)) × ((turns : List Turn) × (ServesEach
      (clients_of g.N.Network.may_listen g.N.Network.may_come g.N.Network.may_release g.N.Network.may_close
      g.N.Reader.Read.remaining g.N.Writer.Write.contents) l.service.day l.fn.store.register.state l.fn.listener came
      turns l.store.register.state l.listener × ((l.served ≡ replied turns) × ((is_lost came ≡ false)
      × ((length came ≡ l._place)
      × LeavesWhereShut l.fn.store.shut l.store.shut (state g.S.Store l.store.conn) l.store.register.state turns)))));
}
