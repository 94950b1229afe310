-- What is answered is told in the room.
use Rattle.sqlite.specs.Held.{state}
use Rattle.vet_http.specs.Answer.{IsByRoute}
use Rattle.vet_http.specs.AskedFor.{asked_for}
use Rattle.vet_requests.specs.Path.{route_of}
use Rattle.vet_requests.specs.declared.reply.Reply.{Reply}
use Rattle.vet_http.proofs.AnswerLemmas.{replied}
use Rattle.vet_http.proofs.AskedLemmas.{repeats_stay, told_cut_off, told_refused}
use Rattle.vet_http.proofs.answer.answer_by.Goals as goal
use Rattle.vet_register.specs.State.{State}

pub returns-clause-reply : goal.returns-clause-reply
returns-clause-reply g c =
    let r = c.args.request.now in
    let s = c.args.store.now.register.state in
    let end = c.answer_by_route-answered.new.store.register.state in
    replied (λ (reply : Reply) (t : State). IsByRoute (route_of r.target) c.args.day r s reply t) s end c.tell.result
    c.answer_by_route-answered.result c.tell.ensures c.answer_by_route-answered.ensures.answer
    c.answer_by_route-answered.ensures.refused c.answer_by_route-answered.ensures.err

pub returns-clause-repeats : goal.returns-clause-repeats
returns-clause-repeats g c =
    repeats_stay (asked_for c.args.day c.args.request.now) c.args.store.now.register.state
    c.answer_by_route-answered.new.store.register.state c.answer_by_route-answered.result c.tell.result c.tell.ensures
    c.answer_by_route-answered.ensures.repeats

pub returns-clause-tables : goal.returns-clause-tables
returns-clause-tables g c = c.tables_are_of_register-2.ensures

pub returns-clause-closed : goal.returns-clause-closed
returns-clause-closed g c = c.answer_by_route-answered.ensures.closed

pub returns-clause-refuses : goal.returns-clause-refuses
returns-clause-refuses g c shut =
    told_refused (asked_for c.args.day c.args.request.now) c.answer_by_route-answered.result c.tell.result
    c.tell.ensures (c.answer_by_route-answered.ensures.refuses shut)

pub returns-clause-shuts : goal.returns-clause-shuts
returns-clause-shuts g c served shut =
    let store = c.answer_by_route-answered.new.store in
    told_cut_off store.register.state (state g.S.Store store.conn) (asked_for c.args.day c.args.request.now)
    c.answer_by_route-answered.result c.tell.result c.tell.ensures
    (c.answer_by_route-answered.ensures.shuts served shut)
