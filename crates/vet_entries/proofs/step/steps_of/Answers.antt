use Rattle.std.proofs.Common.{◌≡◌, IfOk, subst}
use Rattle.vet_entries.specs.Step.{steps_of}
use Rattle.vet_entries.proofs.step.steps_of.Goals as goal

pub returns-clause-ok : goal.returns-clause-ok
returns-clause-ok c =
    subst (λ n. IfOk c.into_steps.result (λ steps. steps.items ≡ steps_of c.args.facts.now.content n))
    c.in_ok-entries.ensures.named c.into_steps.ensures.ok
