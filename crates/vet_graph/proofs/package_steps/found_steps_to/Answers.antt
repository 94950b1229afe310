use Rattle.std.proofs.Common.{◌≡◌, ◌∙◌, List, ap, subst, sym}
use Rattle.std.proofs.lemmas.Result.{IfOk-weaker}
use Rattle.vet_entries.specs.Condemned.{violations_of}
use Rattle.vet_entries.specs.Step.{steps_of}
use Rattle.vet_entries.specs.declared.step.Step.{Step}
use Rattle.vet_graph.specs.Leading.{AreStepsTo, KeepChains}
use Rattle.vet_graph.specs.PackageSteps.{AreLinked}
use Rattle.vet_graph.specs.Search.{steps_in}
use Rattle.vet_graph.proofs.package_steps.found_steps_to.Goals as goal

pub returns-clause-steps : goal.returns-clause-steps
returns-clause-steps c =
    let facts = c.args.facts.now.content in
    let pair = c.args.pair.now in
    IfOk-weaker c.linked.result
    (AreLinked pair.«package» c.in_ok-steps.steps.items c.in_ok-violations.violations.items)
    (AreStepsTo facts pair c.args.place)
    (λ held h. record {
      steps = subst (λ (all : List Step). KeepChains all c.args.place pair.version (steps_in held.steps))
          (c.in_ok-all.ensures.ok ∙ ap (steps_of facts) c.in_ok-entries.ensures.named)
          (subst (KeepChains c.in_ok-all.all.items c.args.place pair.version) (sym h.steps)
          c.in_ok-steps.ensures.chains);
      guards = h.guards;
      violations = h.violations ∙ c.in_ok-violations.ensures.ok
          ∙ ap (violations_of facts) c.in_ok-entries.ensures.named;
    }) c.linked.ensures.linked
