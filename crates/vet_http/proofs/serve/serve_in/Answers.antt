-- What was read and its reply, as it was written.
use Rattle.std.proofs.Common.{◌≡◌}
use Rattle.sqlite.specs.Held.{state}
use Rattle.vet_requests.specs.Input.{heard}
use Rattle.vet_http.specs.Serve.{IsCutOffBy, IsRefusedBy, RepliesWithRepeats}
use Rattle.vet_http.proofs.ServeLemmas.{replied, without_repeats}
use Rattle.vet_http.proofs.serve.serve_in.Goals as goal

pub returns-in-Ok-reply_to-clause-repeats : goal.returns-in-Ok-reply_to-clause-repeats
returns-in-Ok-reply_to-clause-repeats g c =
    let s = c.args.store.now.register.state in
    let end = c.reply_to.new.store.register.state in
    replied (end ≡ s) (heard g.R.Read.remaining c.args.reader.now)
    (heard g.R.Read.remaining c.read_request_in.new.reader) (g.W.Write.contents c.args.writer.now)
    (g.W.Write.contents c.write_reply.new.writer) c.write_reply.result (RepliesWithRepeats c.args.day s end)
    c.in-Ok.told c.in-Ok-reply_to.reply c.in-Ok.ensures.read
    (λ bytes requests. (
      c.in-Ok.told,
      (requests, (c.in-Ok-reply_to.ensures.reply, c.in-Ok-reply_to.ensures.repeats)),
    ))
    c.write_reply.ensures.status c.write_reply.ensures.whole c.write_reply.ensures.faults c.write_reply.ensures.part

pub returns-in-Ok-reply_to-clause-served : goal.returns-in-Ok-reply_to-clause-served
returns-in-Ok-reply_to-clause-served g c =
    without_repeats c.args.day (heard g.R.Read.remaining c.args.reader.now)
    (heard g.R.Read.remaining c.read_request_in.new.reader) (g.W.Write.contents c.args.writer.now)
    (g.W.Write.contents c.write_reply.new.writer) c.args.store.now.register.state
    c.reply_to.new.store.register.state c.write_reply.result (returns-in-Ok-reply_to-clause-repeats g c)

pub returns-in-Ok-reply_to-clause-refuses : goal.returns-in-Ok-reply_to-clause-refuses
returns-in-Ok-reply_to-clause-refuses g c shut =
    replied (c.reply_to.new.store.register.state ≡ c.args.store.now.register.state)
    (heard g.R.Read.remaining c.args.reader.now) (heard g.R.Read.remaining c.read_request_in.new.reader)
    (g.W.Write.contents c.args.writer.now) (g.W.Write.contents c.write_reply.new.writer) c.write_reply.result
    (IsRefusedBy c.args.day) c.in-Ok.told c.in-Ok-reply_to.reply c.in-Ok.ensures.read
    (λ bytes requests. (c.in-Ok.told, (requests, c.in-Ok-reply_to.ensures.refuses shut)))
    c.write_reply.ensures.status c.write_reply.ensures.whole c.write_reply.ensures.faults c.write_reply.ensures.part

pub returns-in-Ok-reply_to-clause-shuts : goal.returns-in-Ok-reply_to-clause-shuts
returns-in-Ok-reply_to-clause-shuts g c served shut =
    let end = c.reply_to.new.store.register.state in
    let conn = state g.S.Store c.reply_to.new.store.conn in
    replied ⊥ (heard g.R.Read.remaining c.args.reader.now) (heard g.R.Read.remaining c.read_request_in.new.reader)
    (g.W.Write.contents c.args.writer.now) (g.W.Write.contents c.write_reply.new.writer) c.write_reply.result
    (IsCutOffBy c.args.day end conn) c.in-Ok.told c.in-Ok-reply_to.reply c.in-Ok.ensures.read
    (λ bytes requests. (c.in-Ok.told, (requests, c.in-Ok-reply_to.ensures.shuts served shut)))
    c.write_reply.ensures.status c.write_reply.ensures.whole c.write_reply.ensures.faults c.write_reply.ensures.part
