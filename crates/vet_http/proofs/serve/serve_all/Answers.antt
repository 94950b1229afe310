-- The turns lead to the machine's state.
use Rattle.std.proofs.lemmas.Result.{IfOk-weaker}
use Rattle.vet_requests.specs.Input.{heard}
use Rattle.vet_http.specs.Serve.{IsTurn, IsTurnWithRepeats}
use Rattle.vet_http.proofs.DoneLemmas.{of_turns}
use Rattle.vet_http.proofs.ServeLemmas.{without_repeats}
use Rattle.vet_http.proofs.TurnLemmas.{each_follows}
use Rattle.vet_http.proofs.serve.serve_all.Goals as goal

pub returns-clause-turns : goal.returns-clause-turns
returns-clause-turns g c =
    let remaining = g.R.Read.remaining in
    let contents = g.W.Write.contents in
    let s = c.args.store.now.register.state in
    let last = c.serve_each-answers.new.store.register.state in
    IfOk-weaker c.serve_each-answers.result _ _
    (λ answers h. each_follows (IsTurnWithRepeats remaining contents) (IsTurn remaining contents)
    (λ s was left answer end. without_repeats was.day (heard remaining was.reader) (heard remaining left.reader)
    (contents was.writer) (contents left.writer) s end answer) s last c.args.connections.now
    c.serve_each-answers.new.connections answers.items h) c.serve_each-answers.ensures.turns

pub returns-clause-kept : goal.returns-clause-kept
returns-clause-kept g c =
    let s = c.args.store.now.register.state in
    let last = c.serve_each-answers.new.store.register.state in
    IfOk-weaker c.serve_each-answers.result _ _
    (λ answers h. of_turns g.R.Read.remaining g.W.Write.contents s last c.args.connections.now
    c.serve_each-answers.new.connections answers.items h) (returns-clause-turns g c)
