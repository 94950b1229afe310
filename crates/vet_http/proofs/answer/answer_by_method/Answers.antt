-- What is asked by the method.
use Rattle.std.proofs.Common.{ap}
use Rattle.std.proofs.lemmas.Result.{IfErr-weaker, IfOk-weaker}
use Rattle.sqlite.specs.Held.{state}
use Rattle.vet_http.specs.Answered.{reply_of}
use Rattle.vet_http.specs.AskedFor.{given_by}
use Rattle.vet_requests.specs.Route.{asked_at, asked_by}
use Rattle.vet_requests.specs.declared.route.RouteAction.TheVariants.{Runs, Shows}
use Rattle.vet_http.proofs.AnswerLemmas.{asks, asks_nothing, by_none, by_run, by_shown, run_refused, shown_refused}
use Rattle.vet_http.proofs.AskedLemmas as asked
use Rattle.vet_http.proofs.answer.answer_by_method.Goals as goal

-- ---- something is shown

pub returns-in-Some-Shows-clause-answer : goal.returns-in-Some-Shows-clause-answer
returns-in-Some-Shows-clause-answer g c =
    let r = c.args.request.now in
    let s = c.args.store.now.register.state in
    let route = c.args.route in
    let is = asks r.method c.method.result.now route c.asked.result c.in-Some-Shows.field-0
    (Shows c.in-Some-Shows.what) c.asked.ensures c.method.ensures c.in-Some-Shows.is c.in-Some-Shows.field-0-is in
    IfOk-weaker c.shown.result _ _
    (λ a h. by_shown route (asked_by r.method (asked_at route)) c.args.day r s c.in-Some-Shows.what _
    c.args.target.now c.register.result.now.state (reply_of a) is c.in-Some-Shows.what-is c.requires
    (ap (λ x. x.state) c.register.ensures) h) c.shown.ensures.shown

pub returns-in-Some-Shows-clause-refused : goal.returns-in-Some-Shows-clause-refused
returns-in-Some-Shows-clause-refused g c =
    let r = c.args.request.now in
    let s = c.args.store.now.register.state in
    let route = c.args.route in
    let is = asks r.method c.method.result.now route c.asked.result c.in-Some-Shows.field-0
    (Shows c.in-Some-Shows.what) c.asked.ensures c.method.ensures c.in-Some-Shows.is c.in-Some-Shows.field-0-is in
    IfErr-weaker c.shown.result _ _
    (λ e h. shown_refused route (asked_by r.method (asked_at route)) c.args.day r s c.in-Some-Shows.what _
    c.args.target.now c.register.result.now.state e is c.in-Some-Shows.what-is c.requires
    (ap (λ x. x.state) c.register.ensures) h) c.shown.ensures.refused

pub returns-in-Some-Shows-clause-repeats : goal.returns-in-Some-Shows-clause-repeats
returns-in-Some-Shows-clause-repeats g c =
    let r = c.args.request.now in
    let s = c.args.store.now.register.state in
    let route = c.args.route in
    let is = asks r.method c.method.result.now route c.asked.result c.in-Some-Shows.field-0
    (Shows c.in-Some-Shows.what) c.asked.ensures c.method.ensures c.in-Some-Shows.is c.in-Some-Shows.field-0-is in
    asked.none_held s s (given_by c.args.day r (asked_by r.method (asked_at route))) c.shown.result
    (asked.by_shown c.args.day r (asked_by r.method (asked_at route)) c.in-Some-Shows.what is)

pub returns-in-Some-Shows-clause-refuses : goal.returns-in-Some-Shows-clause-refuses
returns-in-Some-Shows-clause-refuses g c shut =
    let r = c.args.request.now in
    let route = c.args.route in
    let is = asks r.method c.method.result.now route c.asked.result c.in-Some-Shows.field-0
    (Shows c.in-Some-Shows.what) c.asked.ensures c.method.ensures c.in-Some-Shows.is c.in-Some-Shows.field-0-is in
    asked.none_refused c.shown.result (given_by c.args.day r (asked_by r.method (asked_at route)))
    (asked.by_shown c.args.day r (asked_by r.method (asked_at route)) c.in-Some-Shows.what is)

-- ---- a command is run

pub returns-in-Some-Runs-clause-answer : goal.returns-in-Some-Runs-clause-answer
returns-in-Some-Runs-clause-answer g c =
    let r = c.args.request.now in
    let s = c.args.store.now.register.state in
    let end = c.run_given.new.store.register.state in
    let route = c.args.route in
    let is = asks r.method c.method.result.now route c.asked.result c.in-Some-Runs.field-0
    (Runs c.in-Some-Runs.given) c.asked.ensures c.method.ensures c.in-Some-Runs.is c.in-Some-Runs.field-0-is in
    IfOk-weaker c.run_given.result _ _
    (λ a h. by_run route (asked_by r.method (asked_at route)) c.args.day r s c.in-Some-Runs.given _ c.args.target.now
    (reply_of a) end is c.in-Some-Runs.given-is c.requires h) c.run_given.ensures.answer

pub returns-in-Some-Runs-clause-refused : goal.returns-in-Some-Runs-clause-refused
returns-in-Some-Runs-clause-refused g c =
    let r = c.args.request.now in
    let s = c.args.store.now.register.state in
    let route = c.args.route in
    let is = asks r.method c.method.result.now route c.asked.result c.in-Some-Runs.field-0
    (Runs c.in-Some-Runs.given) c.asked.ensures c.method.ensures c.in-Some-Runs.is c.in-Some-Runs.field-0-is in
    IfErr-weaker c.run_given.result _ _
    (λ e h. run_refused route (asked_by r.method (asked_at route)) c.args.day r s c.in-Some-Runs.given _
    c.args.target.now e is c.in-Some-Runs.given-is c.requires h) c.run_given.ensures.refused

pub returns-in-Some-Runs-clause-repeats : goal.returns-in-Some-Runs-clause-repeats
returns-in-Some-Runs-clause-repeats g c =
    let r = c.args.request.now in
    let route = c.args.route in
    let is = asks r.method c.method.result.now route c.asked.result c.in-Some-Runs.field-0
    (Runs c.in-Some-Runs.given) c.asked.ensures c.method.ensures c.in-Some-Runs.is c.in-Some-Runs.field-0-is in
    asked.held_as c.args.store.now.register.state c.run_given.new.store.register.state _
    (given_by c.args.day r (asked_by r.method (asked_at route))) c.run_given.result
    (asked.by_giving c.args.day r (asked_by r.method (asked_at route)) c.in-Some-Runs.given _ c.args.target.now is
    c.in-Some-Runs.given-is c.requires) c.run_given.ensures.repeats

pub returns-in-Some-Runs-clause-refuses : goal.returns-in-Some-Runs-clause-refuses
returns-in-Some-Runs-clause-refuses g c shut =
    let r = c.args.request.now in
    let route = c.args.route in
    let is = asks r.method c.method.result.now route c.asked.result c.in-Some-Runs.field-0
    (Runs c.in-Some-Runs.given) c.asked.ensures c.method.ensures c.in-Some-Runs.is c.in-Some-Runs.field-0-is in
    asked.refused_as c.run_given.result _ (given_by c.args.day r (asked_by r.method (asked_at route)))
    (asked.by_giving c.args.day r (asked_by r.method (asked_at route)) c.in-Some-Runs.given _ c.args.target.now is
    c.in-Some-Runs.given-is c.requires) (c.run_given.ensures.refuses shut)

pub returns-in-Some-Runs-clause-shuts : goal.returns-in-Some-Runs-clause-shuts
returns-in-Some-Runs-clause-shuts g c served shut =
    let r = c.args.request.now in
    let store = c.run_given.new.store in
    let route = c.args.route in
    let is = asks r.method c.method.result.now route c.asked.result c.in-Some-Runs.field-0
    (Runs c.in-Some-Runs.given) c.asked.ensures c.method.ensures c.in-Some-Runs.is c.in-Some-Runs.field-0-is in
    asked.cut_as store.register.state (state g.S.Store store.conn) _
    (given_by c.args.day r (asked_by r.method (asked_at route))) c.run_given.result
    (asked.by_giving c.args.day r (asked_by r.method (asked_at route)) c.in-Some-Runs.given _ c.args.target.now is
    c.in-Some-Runs.given-is c.requires) (c.run_given.ensures.shuts served shut)

-- ---- the route lacks the method

pub returns-in-None-clause-answer : goal.returns-in-None-clause-answer
returns-in-None-clause-answer g c =
    let r = c.args.request.now in
    let s = c.args.store.now.register.state in
    let route = c.args.route in
    let none = asks_nothing r.method c.method.result.now route c.asked.result c.asked.ensures c.method.ensures
    c.in-None.is in
    IfOk-weaker c.not_allowed.result _ _
    (λ a h. by_none route (asked_by r.method (asked_at route)) c.args.day r s (reply_of a) none h)
    c.not_allowed.ensures.reply

pub returns-in-None-clause-repeats : goal.returns-in-None-clause-repeats
returns-in-None-clause-repeats g c =
    let r = c.args.request.now in
    let s = c.args.store.now.register.state in
    let route = c.args.route in
    let none = asks_nothing r.method c.method.result.now route c.asked.result c.asked.ensures c.method.ensures
    c.in-None.is in
    asked.none_held s s (given_by c.args.day r (asked_by r.method (asked_at route))) c.not_allowed.result
    (asked.by_lacking c.args.day r (asked_by r.method (asked_at route)) none)

pub returns-in-None-clause-refuses : goal.returns-in-None-clause-refuses
returns-in-None-clause-refuses g c shut =
    let r = c.args.request.now in
    let route = c.args.route in
    let none = asks_nothing r.method c.method.result.now route c.asked.result c.asked.ensures c.method.ensures
    c.in-None.is in
    asked.none_refused c.not_allowed.result (given_by c.args.day r (asked_by r.method (asked_at route)))
    (asked.by_lacking c.args.day r (asked_by r.method (asked_at route)) none)
