use Rattle.std.proofs.Common.{ap, ◌∙◌}
use Rattle.vet_entries.specs.Condemned.{violations_of}
use Rattle.vet_entries.specs.Step.{steps_of}
use Rattle.vet_masks.proofs.keeper.evidence_of.Goals as goal

pub returns-clause-steps : goal.returns-clause-steps
returns-clause-steps c = c.in_ok-steps.ensures.ok ∙ ap (steps_of c.args.facts.now.content) c.in_ok-entries.ensures.named

pub returns-clause-violations : goal.returns-clause-violations
returns-clause-violations c =
    c.in_ok-violations.ensures.ok ∙ ap (violations_of c.args.facts.now.content) c.in_ok-entries.ensures.named
