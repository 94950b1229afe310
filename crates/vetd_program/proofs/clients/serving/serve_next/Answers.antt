-- What came of a client, or of none.
use Rattle.std.proofs.Common.{[], ◌∷◌, refl, rules}
use Rattle.sqlite.specs.Held.{state}
use Rattle.vet_store.proofs.Tying.{others_as_were}
use Rattle.vetd_program.proofs.DoneTurnLemmas.{never_shut}
use Rattle.vetd_program.proofs.ServingLemmas.{lost_alone, no_client, one_client}
use Rattle.vetd_program.proofs.clients.serving.serve_next.Goals as goal
use Rattle.vetd_program.specs.Serving.{clients_of}

pub returns-in-Client-clause-served : goal.returns-in-Client-clause-served
returns-in-Client-clause-served g c =
    let clients = clients_of g.N.Network.may_listen g.N.Network.may_come g.N.Network.may_release
    g.N.Network.may_close g.N.Reader.Read.remaining g.N.Writer.Write.contents in
    let h = c.serve_client.ensures.served in
    let came = c.accept.ensures in (
      c.accept.result,
      (
        h.0 ∷ [],
        (
          one_client clients c.args.day c.accept.result c.in-Client.client h.0 c.args.store.now.register.state
              c.serve_client.new.store.register.state c.args.listener.now c.accept.new.listener
              c.serve_client.new.listener c.in-Client.is (came.came, came.on_day) h.1.0,
          (search rules, (h.1.1.0, h.1.1.1)),
        ),
      ),
    )

pub returns-in-Failed-clause-served : goal.returns-in-Failed-clause-served
returns-in-Failed-clause-served g c =
    let clients = clients_of g.N.Network.may_listen g.N.Network.may_come g.N.Network.may_release
    g.N.Network.may_close g.N.Reader.Read.remaining g.N.Writer.Write.contents in
    let store = c.args.store.now in
    let came = c.accept.ensures in (
      c.accept.result,
      (
        [],
        (
          no_client clients c.args.day c.accept.result store.register.state c.args.listener.now
              c.accept.new.listener c.in-Failed.is (came.came, came.on_day),
          (search rules, (refl, never_shut store.shut (state g.S.Store store.conn) store.register.state [])),
        ),
      ),
    )

pub returns-in-Lost-clause-served : goal.returns-in-Lost-clause-served
returns-in-Lost-clause-served g c =
    let clients = clients_of g.N.Network.may_listen g.N.Network.may_come g.N.Network.may_release
    g.N.Network.may_close g.N.Reader.Read.remaining g.N.Writer.Write.contents in
    let store = c.args.store.now in
    let came = c.accept.ensures in (
      c.accept.result,
      (
        [],
        (
          lost_alone clients c.args.day c.accept.result store.register.state c.args.listener.now
              c.accept.new.listener c.in-Lost.is (came.came, came.on_day),
          (search rules, (tt, never_shut store.shut (state g.S.Store store.conn) store.register.state [])),
        ),
      ),
    )

pub returns-in-Failed-clause-others : goal.returns-in-Failed-clause-others
returns-in-Failed-clause-others g c = others_as_were (state g.S.Store c.args.store.now.conn)

pub returns-in-Lost-clause-others : goal.returns-in-Lost-clause-others
returns-in-Lost-clause-others g c = others_as_were (state g.S.Store c.args.store.now.conn)
