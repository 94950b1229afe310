-- One turn more.
use Rattle.std.proofs.Common.{◌∙◌, ◌<◌, IsTrue, List, ap, get_or, length, rules, subst, sym, take}
use Rattle.sqlite.specs.Held.{state}
use Rattle.vet_requests.specs.Input.{heard}
use Rattle.vet_http.specs.DoneRequests.{LeavesAmong}
use Rattle.vet_http.specs.Serve.{IsCutOffBy, IsServedBy, IsTurnOfShut, IsTurnWithRepeats}
use Rattle.vet_http.specs.declared.serve.Connection.{Connection}
use Rattle.vet_http.proofs.ServeLemmas.{cut_off_by}
use Rattle.vet_http.proofs.TurnLemmas.{each_more, leaves_more, one_more, rest_same}
use Rattle.vet_http.proofs.serve.serve_each.Goals as goal
use Rattle.vet_store.proofs.Tying.{others_then}

pub connections-preserved : goal.connections-preserved
connections-preserved g c =
    let Conn = Connection g.row.R.Denot g.row.W.Denot in
    let remaining = g.R.Read.remaining in
    let contents = g.W.Write.contents in
    let i = c.connections.connection-index in
    let ds = c.connections.connections in
    let cs = c.args.connections.now in
    let was = c.connection-item.result in
    let left : Conn = record {
      day = (get_or ds i was).day;
      reader = c.serve_in-answer.new.reader;
      writer = c.serve_in-answer.new.writer;
    } in
    let answer = c.serve_in-answer.result in
    let s = c.args.store.now.register.state in
    let store = c.connections.store in
    let after = c.serve_in-answer.new.store in
    let conn = state g.S.Store store.conn in
    let conn' = state g.S.Store after.conn in
    let within : i < length ds = search rules in
    let item = c.connection-item.is in
    let rest = c.connections.invariant.rest in
    let turns = c.connections.invariant.turns in
    let Holds = IsTurnWithRepeats remaining contents in
    let turn = subst (λ (held : Conn). Holds store.register.state held left answer after.register.state) (sym item)
    c.serve_in-answer.ensures.repeats in
    record {
      count = search rules;
      room = search rules;
      rest = rest_same cs ds i was left within item rest;
      tables = c.serve_in-answer.ensures.tables;
      closed = λ shut.
          c.serve_in-answer.ensures.closed
          (subst IsTrue (sym (ap (λ st. st.shut) (c.connections.invariant.closed shut))) shut)
          ∙ c.connections.invariant.closed shut;
      others = others_then (state g.S.Store c.args.store.now.conn) conn conn' c.connections.invariant.others
          c.serve_in-answer.ensures.others;
      leaves = λ served shut clean.
          one_more cs ds i was left within item rest
          (λ (before behind : List Conn). LeavesAmong remaining before behind after.register.state conn')
          (leaves_more remaining Holds (take i cs) (take i ds) c.connections.answers.items was left s
          store.register.state after.register.state conn conn' store.shut after.shut turns
          (c.connections.invariant.leaves served)
          (λ is. (
            ap (λ st. st.register.state) (c.serve_in-answer.ensures.closed is),
            ap (λ st. state g.S.Store st.conn) (c.serve_in-answer.ensures.closed is),
          ))
          (λ serves is clean. cut_off_by was.day after.register.state conn' (heard remaining was.reader)
          (heard remaining left.reader) (contents was.writer) (contents left.writer) answer
          (subst (λ (held : Conn). IsServedBy (IsCutOffBy held.day after.register.state conn') ⊥
          (heard remaining held.reader) (heard remaining left.reader) (contents held.writer) (contents left.writer)
          answer) (sym item) (c.serve_in-answer.ensures.shuts serves is)) clean) shut clean);
      refuses = λ shut.
          each_more cs ds i was left within item rest (IsTurnOfShut remaining contents) c.connections.answers.items
          c.push_reserved.new.self.items answer s store.register.state after.register.state
          c.push_reserved.ensures.items (c.connections.invariant.refuses shut)
          (subst (λ (held : Conn). IsTurnOfShut remaining contents store.register.state held left answer
          after.register.state) (sym item)
          (c.serve_in-answer.ensures.refuses
          (subst IsTrue (sym (ap (λ st. st.shut) (c.connections.invariant.closed shut))) shut)));
      turns = each_more cs ds i was left within item rest Holds c.connections.answers.items
          c.push_reserved.new.self.items answer s store.register.state after.register.state
          c.push_reserved.ensures.items turns turn;
    }
