-- What is known of slices and vectors is all of them.
use Rattle.std.proofs.lemmas.Result.{IfOk-weaker}
use Rattle.vet_http.proofs.ServeLemmas.{of_bytes}
use Rattle.vet_http.proofs.TurnLemmas.{each_follows}
use Rattle.vet_http.proofs.serve.serve_slices.Goals as goal

pub returns-clause-turns : goal.returns-clause-turns
returns-clause-turns g c =
    IfOk-weaker c.serve_all.result _ _
    (λ answers h. each_follows _ _
    (λ s was left answer end. of_bytes was.day was.reader.source.now left.reader.source.now was.reader.handed
    left.reader.handed was.writer.items
    left.writer.items s end answer) c.args.store.now.register.state c.serve_all.new.store.register.state
    c.args.connections.now c.serve_all.new.connections answers.items h) c.serve_all.ensures.turns
