use Rattle.std.proofs.lemmas.Result.{IfOk-weaker}
use Rattle.vet_store.specs.Repeats.{IsTurnWithRepeats}
use Rattle.vet_store.specs.Runs.{IsTurn}
use Rattle.vet_store.proofs.Running.{each_answered, each_weaker, is_of_done, ran_of}
use Rattle.vet_store.proofs.store.Store.run_all.Goals as goal

pub returns-clause-ran : goal.returns-clause-ran
returns-clause-ran g c =
    let s = c.args.self.now.register.state in
    let last = c.run_each-answers.new.self.register.state in
    let commands = c.args.commands.now in
    IfOk-weaker c.run_each-answers.result _ _
    (λ answers h. ran_of s last commands answers.items
    (each_weaker IsTurnWithRepeats IsTurn (λ t command a end both. both.0) s last commands answers.items h))
    c.run_each-answers.ensures.turns

pub returns-clause-answered : goal.returns-clause-answered
returns-clause-answered g c =
    let s = c.args.self.now.register.state in
    let last = c.run_each-answers.new.self.register.state in
    let commands = c.args.commands.now in
    IfOk-weaker c.run_each-answers.result _ _
    (λ answers h. each_answered IsTurnWithRepeats s last commands answers.items h)
    c.run_each-answers.ensures.turns

pub returns-clause-kept : goal.returns-clause-kept
returns-clause-kept g c =
    let s = c.args.self.now.register.state in
    let last = c.run_each-answers.new.self.register.state in
    let commands = c.args.commands.now in
    IfOk-weaker c.run_each-answers.result _ _
    (λ answers h. is_of_done s last commands answers.items
    (each_weaker IsTurnWithRepeats IsTurn (λ t command a end both. both.0) s last commands answers.items h))
    c.run_each-answers.ensures.turns
