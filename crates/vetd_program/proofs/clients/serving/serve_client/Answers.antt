-- What came of a client, whether it had its whole reply or ended in a fault.
use Rattle.std.proofs.Common.{refl}
use Rattle.sqlite.specs.Held.{state}
use Rattle.vet_http.proofs.ServeLemmas.{cut_off_by}
use Rattle.vet_requests.specs.Input.{heard}
use Rattle.vetd_program.proofs.DoneTurnLemmas.{one_leaves}
use Rattle.vetd_program.proofs.clients.serving.serve_client.Goals as goal
use Rattle.vetd_program.specs.Serving.{Turn}

pub returns-clause-served : goal.returns-clause-served
returns-clause-served g c =
    let turn : Turn = record {
      day = c.args.client.day;
      seen = heard g.N.Reader.Read.remaining c.args.client.reader;
      seen' = heard g.N.Reader.Read.remaining c.serve_in-served.new.reader;
      out = g.N.Writer.Write.contents c.args.client.writer;
      out' = g.N.Writer.Write.contents c.serve_in-served.new.writer;
      answer = c.serve_in-served.result;
    } in
    let store = c.serve_in-served.new.store in
    let conn = state g.S.Store store.conn in
    let h = c.serve_in-served.ensures in (
      turn,
      (
        record {
          day = refl;
          seen = refl;
          out = refl;
          served = h.repeats;
          left = record {
            day = c.args.client.day;
            reader = c.serve_in-served.new.reader;
            writer = c.end_reply-replied.new.writer;
          };
          same = refl;
          seen' = refl;
          out' = c.end_reply-replied.ensures.kept;
          released = c.release.ensures;
        },
        (
          c.end_reply-replied.ensures.count,
          one_leaves c.args.store.now.shut store.shut conn store.register.state turn
              (λ served shut clean. cut_off_by turn.day store.register.state conn turn.seen turn.seen' turn.out
              turn.out' turn.answer (h.shuts served shut) clean),
        ),
      ),
    )
