use Rattle.std.proofs.Common.{◌∙◌, ap}
use Rattle.std.proofs.lemmas.Result.{IfOk-weaker}
use Rattle.vet_entries.specs.Condemned.{violations_of}
use Rattle.vet_entries.specs.Step.{steps_of}
use Rattle.vet_graph.specs.PackageSteps.{AreLinked, AreStepsOf}
use Rattle.vet_graph.proofs.package_steps.found_steps.Goals as goal

pub returns-clause-steps : goal.returns-clause-steps
returns-clause-steps c =
    let facts = c.args.facts.now.content in
    let name = c.args.«package».now in
    IfOk-weaker c.linked.result
    (AreLinked name c.in_ok-steps.steps.items c.in_ok-violations.violations.items)
    (AreStepsOf facts name)
    (λ held h. record {
      named = h.named;
      steps = h.steps ∙ c.in_ok-steps.ensures.ok ∙ ap (steps_of facts) c.in_ok-entries.ensures.named;
      guards = h.guards;
      violations = h.violations ∙ c.in_ok-violations.ensures.ok
          ∙ ap (violations_of facts) c.in_ok-entries.ensures.named;
    }) c.linked.ensures.linked
