-- The connections before this one were served, and the others are as they were.
use Rattle.std.proofs.Common.{◌≡◌, ◌≤◌, IsTrue, false, length, take, drop, vec_len, vec_capacity}
use Rattle.sqlite.specs.Held.{state}
use Rattle.sqlite.specs.State.{HasCleanDisk}
use Rattle.vet_http.specs.DoneRequests.{LeavesAmong}
use Rattle.vet_http.specs.Serve.{Each, IsTurnOfShut, IsTurnWithRepeats}
use Rattle.vet_rows.specs.RowsOf.{rows_of}
use Rattle.vet_store.specs.Beside.{OthersStay}
use Rattle.vet_store.specs.Tied.{IsTied}
use Rattle.vet_http.proofs.serve.serve_each.Given as goal

abbrev pub invariant-connections : goal.invariant-connections
invariant-connections g l = record {
  count : vec_len l.answers ≡ l.connection-index;
  room : length l.connections ≤ vec_capacity l.answers;
  rest : drop l.connection-index l.connections ≡ drop l.connection-index l.initial.connections;
  tables : IsTied (state g.S.Store l.store.conn) l.store.shut (rows_of l.store.register.state);
  closed : IsTrue l.initial.store.shut → l.store ≡ l.initial.store;
  others : OthersStay (state g.S.Store l.initial.store.conn) (state g.S.Store l.store.conn);
  refuses : IsTrue l.initial.store.shut
      → Each (IsTurnOfShut g.R.Read.remaining g.W.Write.contents) l.initial.store.register.state
      (take l.connection-index l.initial.connections) (take l.connection-index l.connections) l.answers.items
      l.store.register.state;
  leaves : l.initial.store.shut ≡ false → IsTrue l.store.shut → HasCleanDisk (state g.S.Store l.store.conn)
      → LeavesAmong g.R.Read.remaining (take l.connection-index l.initial.connections)
      (take l.connection-index l.connections) l.store.register.state (state g.S.Store l.store.conn);
  turns : Each (IsTurnWithRepeats g.R.Read.remaining g.W.Write.contents) l.initial.store.register.state
      (take l.connection-index l.initial.connections) (take l.connection-index l.connections) l.answers.items
      l.store.register.state;
}
