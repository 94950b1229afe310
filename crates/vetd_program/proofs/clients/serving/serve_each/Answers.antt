-- One arrival more, and the one with which what listened is lost.
use Rattle.std.proofs.Common.{[], ◌∷◌, ◌++◌, ◌∙◌, ap, arith, length-append, refl, rules, sym}
use Rattle.sqlite.specs.Held.{state}
use Rattle.vet_store.proofs.Tying.{others_as_were, others_then}
use Rattle.vetd_program.proofs.DoneTurnLemmas.{leaves_more, never_shut}
use Rattle.vetd_program.proofs.ServingLemmas.{lost_more, none_at_loss, replied_more, serves_more}
use Rattle.vetd_program.specs.Serving.{clients_of}
use Rattle.vetd_program.proofs.clients.serving.serve_each.Goals as goal

pub clients-init : goal.clients-init
clients-init g c =
    let store = c.args.store.now in
    record {
      few = search rules;
      tables = c.tables_are_of_register.ensures;
      closed = λ _. refl;
      others = others_as_were (state g.S.Store store.conn);
      served = (
        [],
        (
          [],
          (
            (refl, refl),
            (
              refl,
              (
                refl,
                (
                  refl,
                  never_shut store.shut (state g.S.Store store.conn) store.register.state [],
                ),
              ),
            ),
          ),
        ),
      );
    }

pub clients-preserved : goal.clients-preserved
clients-preserved g c =
    let clients = clients_of g.N.Network.may_listen g.N.Network.may_come g.N.Network.may_release
    g.N.Network.may_close g.N.Reader.Read.remaining g.N.Writer.Write.contents in
    let first = c.args.store.now in
    let mid = c.clients.store in
    let last = c.serve_next.new.store in
    let before = c.clients.invariant.served in
    let came = before.0 in
    let turns = before.1.0 in
    let step = c.in-Some.ensures.served in
    let arrival = step.0 in
    let more = step.1.0 in
    let both = replied_more turns more in
    let count = length-append came (arrival ∷ []) in
    record {
      few = search rules;
      tables = c.serve_next.ensures.tables;
      closed = search rules;
      others = others_then (state g.S.Store first.conn) (state g.S.Store mid.conn) (state g.S.Store last.conn)
          c.clients.invariant.others c.serve_next.ensures.others;
      served = (
        came ++ arrival ∷ [],
        (
          turns ++ more,
          (
            serves_more clients c.args.service.now.day came turns more arrival first.register.state mid.register.state
                last.register.state c.args.listener.now c.clients.listener c.serve_next.new.listener
                before.1.1.1.1.0 before.1.1.0 step.1.1.0,
            (
              omega (arith, both, before.1.1.1.0, step.1.1.1.1.0),
              (
                lost_more came arrival before.1.1.1.1.0 ∙ sym step.1.1.1.0,
                (
                  omega (arith, count, before.1.1.1.1.1.0),
                  leaves_more first.shut mid.shut last.shut (state g.S.Store mid.conn) (state g.S.Store last.conn)
                      mid.register.state last.register.state turns more
                      (λ is. let same = c.serve_next.ensures.closed is in
                      (ap (λ s. state g.S.Store s.conn) same, ap (λ s. s.register.state) same))
                      before.1.1.1.1.1.1 step.1.1.1.1.1,
                ),
              ),
            ),
          ),
        ),
      );
    }

pub returns-in-None-clause-served : goal.returns-in-None-clause-served
returns-in-None-clause-served g c =
    let clients = clients_of g.N.Network.may_listen g.N.Network.may_come g.N.Network.may_release
    g.N.Network.may_close g.N.Reader.Read.remaining g.N.Writer.Write.contents in
    let first = c.args.store.now in
    let mid = c.clients.store in
    let last = c.serve_next.new.store in
    let before = c.clients.invariant.served in
    let came = before.0 in
    let turns = before.1.0 in
    let step = c.in-None.ensures.served in
    let arrival = step.0 in
    let more = step.1.0 in
    let both = replied_more turns more in
    let count = length-append came (arrival ∷ []) in
    let none = none_at_loss clients c.args.service.now.day arrival more mid.register.state last.register.state
    c.clients.listener c.serve_next.new.listener (sym step.1.1.1.0) step.1.1.0 in (
      record {
        came = came ++ arrival ∷ [];
        turns = turns ++ more;
        one_by_one = serves_more clients c.args.service.now.day came turns more arrival first.register.state
            mid.register.state last.register.state c.args.listener.now c.clients.listener c.serve_next.new.listener
            before.1.1.1.1.0 before.1.1.0 step.1.1.0;
        few = omega (arith, count, before.1.1.1.1.1.0);
        found = sym (lost_more came arrival before.1.1.1.1.0 ∙ sym step.1.1.1.0);
        all = λ two. cc;
      },
      (
        omega (arith, both, none, before.1.1.1.0),
        leaves_more first.shut mid.shut last.shut (state g.S.Store mid.conn)
            (state g.S.Store last.conn)
            mid.register.state last.register.state turns more
            (λ is. let same = c.serve_next.ensures.closed is in
            (ap (λ s. state g.S.Store s.conn) same, ap (λ s. s.register.state) same))
            before.1.1.1.1.1.1 step.1.1.1.1.1,
      ),
    )

pub returns-in-None-clause-others : goal.returns-in-None-clause-others
returns-in-None-clause-others g c =
    others_then (state g.S.Store c.args.store.now.conn) (state g.S.Store c.clients.store.conn)
    (state g.S.Store c.serve_next.new.store.conn) c.clients.invariant.others c.serve_next.ensures.others

pub returns-clause-served : goal.returns-clause-served
returns-clause-served g c =
    let before = c.clients.invariant.served in (
      record {
        came = before.0;
        turns = before.1.0;
        one_by_one = before.1.1.0;
        few = omega (arith, before.1.1.1.1.1.0);
        found = sym before.1.1.1.1.0;
        all = λ _. omega (arith, before.1.1.1.1.1.0);
      },
      (before.1.1.1.0, before.1.1.1.1.1.1),
    )
