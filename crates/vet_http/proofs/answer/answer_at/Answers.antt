-- The method, where the target has a route.
use Rattle.sqlite.specs.Held.{state}
use Rattle.std.proofs.Common.{◌∙◌, inl, sym}
use Rattle.std.proofs.lemmas.Result.{IfErr-weaker, IfOk-weaker}
use Rattle.vet_http.specs.Answered.{reply_of}
use Rattle.vet_http.specs.AskedFor.{given_at, given_by}
use Rattle.vet_requests.specs.Route.{asked_at, asked_by}
use Rattle.vet_requests.specs.Path.{route_at}
use Rattle.vet_http.proofs.AnswerLemmas.{at_none, at_route, refused_at}
use Rattle.vet_http.proofs.AskedLemmas.{at_found, at_missing, cut_as, held_as, never, none_held, none_refused}
use Rattle.vet_http.proofs.AskedLemmas.{refused_as}
use Rattle.vet_http.proofs.answer.answer_at.Goals as goal

pub returns-in-Some-clause-answer : goal.returns-in-Some-clause-answer
returns-in-Some-clause-answer g c =
    let r = c.args.request.now in
    let s = c.args.store.now.register.state in
    let found = sym c.find.ensures ∙ c.in-Some.is in
    IfOk-weaker c.answer_by_method.result _ _
    (λ a h. at_route (route_at c.args.target.now) c.args.day r s c.in-Some.route (reply_of a)
    c.answer_by_method.new.store.register.state found h) c.answer_by_method.ensures.answer

pub returns-in-Some-clause-refused : goal.returns-in-Some-clause-refused
returns-in-Some-clause-refused g c =
    let r = c.args.request.now in
    let s = c.args.store.now.register.state in
    let found = sym c.find.ensures ∙ c.in-Some.is in
    IfErr-weaker c.answer_by_method.result _ _
    (λ e h. refused_at (route_at c.args.target.now) c.args.day r s c.in-Some.route e found h)
    c.answer_by_method.ensures.refused

pub returns-in-Some-clause-repeats : goal.returns-in-Some-clause-repeats
returns-in-Some-clause-repeats g c =
    let r = c.args.request.now in
    let found = route_at c.args.target.now in
    held_as c.args.store.now.register.state c.answer_by_method.new.store.register.state
    (given_by c.args.day r (asked_by r.method (asked_at c.in-Some.route))) (given_at c.args.day r found)
    c.answer_by_method.result
    (at_found c.args.day r found c.in-Some.route (sym c.find.ensures ∙ c.in-Some.is))
    c.answer_by_method.ensures.repeats

pub returns-in-Some-clause-refuses : goal.returns-in-Some-clause-refuses
returns-in-Some-clause-refuses g c shut =
    let r = c.args.request.now in
    let found = route_at c.args.target.now in
    refused_as c.answer_by_method.result (given_by c.args.day r (asked_by r.method (asked_at c.in-Some.route)))
    (given_at c.args.day r found)
    (at_found c.args.day r found c.in-Some.route (sym c.find.ensures ∙ c.in-Some.is))
    (c.answer_by_method.ensures.refuses shut)

pub returns-in-Some-clause-shuts : goal.returns-in-Some-clause-shuts
returns-in-Some-clause-shuts g c served shut =
    let r = c.args.request.now in
    let found = route_at c.args.target.now in
    let store = c.answer_by_method.new.store in
    cut_as store.register.state (state g.S.Store store.conn)
    (given_by c.args.day r (asked_by r.method (asked_at c.in-Some.route))) (given_at c.args.day r found)
    c.answer_by_method.result
    (at_found c.args.day r found c.in-Some.route (sym c.find.ensures ∙ c.in-Some.is))
    (c.answer_by_method.ensures.shuts served shut)

pub returns-in-None-clause-answer : goal.returns-in-None-clause-answer
returns-in-None-clause-answer g c =
    let r = c.args.request.now in
    let s = c.args.store.now.register.state in
    let none = sym c.find.ensures ∙ c.in-None.is in
    IfOk-weaker c.not_found.result _ _
    (λ a h. at_none (route_at c.args.target.now) c.args.day r s (reply_of a) none h) c.not_found.ensures.reply

pub returns-in-None-clause-refused : goal.returns-in-None-clause-refused
returns-in-None-clause-refused g c =
    IfErr-weaker c.not_found.result _ _ (λ e h. inl (inl h)) c.not_found.ensures.memory

pub returns-in-None-clause-repeats : goal.returns-in-None-clause-repeats
returns-in-None-clause-repeats g c =
    let r = c.args.request.now in
    let s = c.args.store.now.register.state in
    let found = route_at c.args.target.now in
    none_held s s (given_at c.args.day r found) c.not_found.result
    (at_missing c.args.day r found (sym c.find.ensures ∙ c.in-None.is))

pub returns-in-None-clause-refuses : goal.returns-in-None-clause-refuses
returns-in-None-clause-refuses g c shut =
    let r = c.args.request.now in
    let found = route_at c.args.target.now in
    none_refused c.not_found.result (given_at c.args.day r found)
    (at_missing c.args.day r found (sym c.find.ensures ∙ c.in-None.is))

pub returns-in-None-clause-shuts : goal.returns-in-None-clause-shuts
returns-in-None-clause-shuts g c served shut = never c.args.store.now.shut served shut
