-- A command that was not given, or was refused, is told so.
use Rattle.std.proofs.Common.{◌⊎◌, refl}
use Rattle.sqlite.specs.Held.{state}
use Rattle.vet_base.specs.declared.refusal.Refusal.{Refusal}
use Rattle.vet_http.specs.Answer.{IsRun}
use Rattle.vet_http.specs.AskedFor.{given_in}
use Rattle.vet_http.specs.Given.{given_told}
use Rattle.vet_http.specs.Told.{refusal_reply}
use Rattle.vet_store.specs.Runs.{IsOfStore}
use Rattle.vet_http.proofs.AnswerLemmas.{given_ran, given_refused, left_by, not_given, on_err, passed_on}
use Rattle.vet_http.proofs.AskedLemmas.{done_fails, given_cut_off, given_ran_held, given_refused_held, not_given_held}
use Rattle.vet_http.proofs.AskedLemmas.{never, not_given_refused, shut_done, shut_refused, store_refused}
use Rattle.vet_http.proofs.answer.run_given.Goals as goal

-- ---- it was not given

pub returns-in_err-command-clause-refused : goal.returns-in_err-command-clause-refused
returns-in_err-command-clause-refused g c =
    let s = c.args.store.now.register.state in
    let given = given_told c.args.given c.args.day c.args.target.now c.args.request.now in
    let e = c.in_err-command.field-0.0 in
    passed_on (λ (x : Refusal). IsOfStore x ⊎ IsRun given s (refusal_reply x) s) e c.from_residual.result
    c.from_residual.ensures.1 (not_given given s e c.in_err-command.ensures)

pub returns-in_err-command-clause-repeats : goal.returns-in_err-command-clause-repeats
returns-in_err-command-clause-repeats g c =
    let s = c.args.store.now.register.state in
    let given = given_told c.args.given c.args.day c.args.target.now c.args.request.now in
    not_given_held s s given c.in_err-command.field-0.0 c.from_residual.result c.in_err-command.ensures
    c.from_residual.ensures.1 refl

pub returns-in_err-command-clause-refuses : goal.returns-in_err-command-clause-refuses
returns-in_err-command-clause-refuses g c shut =
    let given = given_told c.args.given c.args.day c.args.target.now c.args.request.now in
    not_given_refused c.from_residual.result given c.in_err-command.field-0.0 c.in_err-command.ensures
    c.from_residual.ensures.1

pub returns-in_err-command-clause-shuts : goal.returns-in_err-command-clause-shuts
returns-in_err-command-clause-shuts g c served shut = never c.args.store.now.shut served shut

-- ---- it was refused

pub returns-in_err-outcome-clause-refused : goal.returns-in_err-outcome-clause-refused
returns-in_err-outcome-clause-refused g c =
    let s = c.args.store.now.register.state in
    let given = given_told c.args.given c.args.day c.args.target.now c.args.request.now in
    let e = c.in_err-outcome.field-0.0 in
    passed_on (λ (x : Refusal). IsOfStore x ⊎ IsRun given s (refusal_reply x) s) e
    c.from_residual-in_err-outcome.result c.from_residual-in_err-outcome.ensures.1
    (given_refused given s c.in_ok-command.command e c.run_command.new.store.register.state c.in_ok-command.ensures
    c.in_err-outcome.ensures.turn)

pub returns-in_err-outcome-clause-repeats : goal.returns-in_err-outcome-clause-repeats
returns-in_err-outcome-clause-repeats g c =
    let s = c.args.store.now.register.state in
    let given = given_told c.args.given c.args.day c.args.target.now c.args.request.now in
    given_refused_held s c.run_command.new.store.register.state given c.in_ok-command.command
    c.in_err-outcome.field-0.0 c.from_residual-in_err-outcome.result c.in_ok-command.ensures
    c.in_err-outcome.ensures.repeats c.from_residual-in_err-outcome.ensures.1

pub returns-in_err-outcome-clause-err : goal.returns-in_err-outcome-clause-err
returns-in_err-outcome-clause-err g c =
    let s = c.args.store.now.register.state in
    on_err c.from_residual-in_err-outcome.result _
    (left_by s c.in_ok-command.command c.in_err-outcome.field-0.0 c.run_command.new.store.register.state
    c.in_err-outcome.ensures.turn)

pub returns-in_err-outcome-clause-refuses : goal.returns-in_err-outcome-clause-refuses
returns-in_err-outcome-clause-refuses g c shut =
    let given = given_told c.args.given c.args.day c.args.target.now c.args.request.now in
    let e = c.in_err-outcome.field-0.0 in
    store_refused c.from_residual-in_err-outcome.result (given_in given) e
    (shut_refused e (c.in_err-outcome.ensures.refuses shut)) c.from_residual-in_err-outcome.ensures.1

pub returns-in_err-outcome-clause-shuts : goal.returns-in_err-outcome-clause-shuts
returns-in_err-outcome-clause-shuts g c served shut =
    let s = c.args.store.now.register.state in
    let end = c.run_command.new.store.register.state in
    let given = given_told c.args.given c.args.day c.args.target.now c.args.request.now in
    let e = c.in_err-outcome.field-0.0 in
    given_cut_off s (state g.S.Store c.run_command.new.store.conn) given c.in_ok-command.command e
    c.from_residual-in_err-outcome.result end c.in_ok-command.ensures (c.in_err-outcome.ensures.shuts served shut)
    c.from_residual-in_err-outcome.ensures.1 (c.in_err-outcome.ensures.leaves served)
    (left_by s c.in_ok-command.command e end c.in_err-outcome.ensures.turn)

-- ---- it was not

pub returns-clause-answer : goal.returns-clause-answer
returns-clause-answer g c =
    let s = c.args.store.now.register.state in
    let given = given_told c.args.given c.args.day c.args.target.now c.args.request.now in
    given_ran given s c.in_ok-command.command c.in_ok-outcome.outcome c.run_command.new.store.register.state
    c.in_ok-command.ensures c.in_ok-outcome.ensures.turn

pub returns-clause-repeats : goal.returns-clause-repeats
returns-clause-repeats g c =
    let s = c.args.store.now.register.state in
    let given = given_told c.args.given c.args.day c.args.target.now c.args.request.now in
    given_ran_held s c.run_command.new.store.register.state given c.in_ok-command.command c.in_ok-outcome.outcome
    c.in_ok-command.ensures c.in_ok-outcome.ensures.repeats

pub returns-clause-refuses : goal.returns-clause-refuses
returns-clause-refuses g c shut = shut_done c.in_ok-outcome.outcome (c.in_ok-outcome.ensures.refuses shut)

pub returns-clause-shuts : goal.returns-clause-shuts
returns-clause-shuts g c served shut =
    done_fails c.in_ok-outcome.outcome (c.in_ok-outcome.ensures.shuts served shut)
