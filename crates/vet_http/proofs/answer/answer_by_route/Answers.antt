-- The route of the target, where it is a text.
use Rattle.sqlite.specs.Held.{state}
use Rattle.std.proofs.Common.{◌⊎◌, ap, Option, IfErr, IfOk, inl, subst}
use Rattle.std.proofs.lemmas.Result.{IfErr-weaker, IfOk-weaker}
use Rattle.vet_http.specs.Answer.{IsByRoute}
use Rattle.vet_http.specs.Answered.{reply_of}
use Rattle.vet_http.specs.AskedFor.{asked_for, given_at}
use Rattle.vet_requests.specs.Path.{route_at, route_of}
use Rattle.vet_http.specs.Told.{refusal_reply}
use Rattle.vet_requests.specs.declared.route.Route.{Route}
use Rattle.vet_http.proofs.AnswerLemmas.{at_none, no_route, same_route}
use Rattle.vet_http.proofs.AskedLemmas.{at_missing, cut_as, held_as, never, none_held, none_refused}
use Rattle.vet_http.proofs.AskedLemmas.{refused_as}
use Rattle.vet_http.proofs.answer.answer_by_route.Goals as goal
use Rattle.vet_store.specs.Runs.{IsOfStore}

pub returns-in-Ok-clause-answer : goal.returns-in-Ok-clause-answer
returns-in-Ok-clause-answer g c =
    let r = c.args.request.now in
    let s = c.args.store.now.register.state in
    let end = c.answer_at.new.store.register.state in
    subst (λ (found : Option Route).
    IfOk c.answer_at.result (λ a. IsByRoute found c.args.day r s (reply_of a) end))
    (same_route r.target c.target.result.now c.in-Ok.target.now c.in-Ok.ensures.cases.1 c.in-Ok.ensures.cases.0
    c.target.ensures) c.answer_at.ensures.answer

pub returns-in-Ok-clause-refused : goal.returns-in-Ok-clause-refused
returns-in-Ok-clause-refused g c =
    let r = c.args.request.now in
    let s = c.args.store.now.register.state in
    subst (λ (found : Option Route).
    IfErr c.answer_at.result (λ e. IsOfStore e ⊎ IsByRoute found c.args.day r s (refusal_reply e) s))
    (same_route r.target c.target.result.now c.in-Ok.target.now c.in-Ok.ensures.cases.1 c.in-Ok.ensures.cases.0
    c.target.ensures) c.answer_at.ensures.refused

pub returns-in-Ok-clause-repeats : goal.returns-in-Ok-clause-repeats
returns-in-Ok-clause-repeats g c =
    let r = c.args.request.now in
    held_as c.args.store.now.register.state c.answer_at.new.store.register.state
    (given_at c.args.day r (route_at c.in-Ok.target.now)) (asked_for c.args.day r) c.answer_at.result
    (ap (given_at c.args.day r) (same_route r.target c.target.result.now c.in-Ok.target.now c.in-Ok.ensures.cases.1
    c.in-Ok.ensures.cases.0 c.target.ensures)) c.answer_at.ensures.repeats

pub returns-in-Ok-clause-refuses : goal.returns-in-Ok-clause-refuses
returns-in-Ok-clause-refuses g c shut =
    let r = c.args.request.now in
    refused_as c.answer_at.result (given_at c.args.day r (route_at c.in-Ok.target.now)) (asked_for c.args.day r)
    (ap (given_at c.args.day r) (same_route r.target c.target.result.now c.in-Ok.target.now c.in-Ok.ensures.cases.1
    c.in-Ok.ensures.cases.0 c.target.ensures)) (c.answer_at.ensures.refuses shut)

pub returns-in-Ok-clause-shuts : goal.returns-in-Ok-clause-shuts
returns-in-Ok-clause-shuts g c served shut =
    let r = c.args.request.now in
    let store = c.answer_at.new.store in
    cut_as store.register.state (state g.S.Store store.conn) (given_at c.args.day r (route_at c.in-Ok.target.now))
    (asked_for c.args.day r) c.answer_at.result
    (ap (given_at c.args.day r) (same_route r.target c.target.result.now c.in-Ok.target.now c.in-Ok.ensures.cases.1
    c.in-Ok.ensures.cases.0 c.target.ensures)) (c.answer_at.ensures.shuts served shut)

pub returns-in-Err-clause-answer : goal.returns-in-Err-clause-answer
returns-in-Err-clause-answer g c =
    let r = c.args.request.now in
    let s = c.args.store.now.register.state in
    IfOk-weaker c.not_found.result _ _
    (λ a h. at_none (route_of r.target) c.args.day r s (reply_of a)
    (no_route r.target c.target.result.now c.in-Err.ensures.cases.0 c.target.ensures) h) c.not_found.ensures.reply

pub returns-in-Err-clause-refused : goal.returns-in-Err-clause-refused
returns-in-Err-clause-refused g c =
    IfErr-weaker c.not_found.result _ _ (λ e h. inl (inl h)) c.not_found.ensures.memory

pub returns-in-Err-clause-repeats : goal.returns-in-Err-clause-repeats
returns-in-Err-clause-repeats g c =
    let r = c.args.request.now in
    let s = c.args.store.now.register.state in
    none_held s s (asked_for c.args.day r) c.not_found.result
    (at_missing c.args.day r (route_of r.target)
    (no_route r.target c.target.result.now c.in-Err.ensures.cases.0 c.target.ensures))

pub returns-in-Err-clause-refuses : goal.returns-in-Err-clause-refuses
returns-in-Err-clause-refuses g c shut =
    let r = c.args.request.now in
    none_refused c.not_found.result (asked_for c.args.day r)
    (at_missing c.args.day r (route_of r.target)
    (no_route r.target c.target.result.now c.in-Err.ensures.cases.0 c.target.ensures))

pub returns-in-Err-clause-shuts : goal.returns-in-Err-clause-shuts
returns-in-Err-clause-shuts g c served shut = never c.args.store.now.shut served shut
