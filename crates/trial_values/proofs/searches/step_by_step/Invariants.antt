-- The answer for the steps so far.
use Rattle.std.proofs.Common.{take}
use Rattle.vet_entries.specs.Step.{steps_of}
use Rattle.vet_graph.specs.Search.{may_take}
use Rattle.vet_masks.specs.Reached.{IsAnswer}
use Rattle.vet_masks.specs.Vouched.{barred_by}
use Rattle.trial_values.proofs.searches.step_by_step.Given as goal

abbrev pub invariant-steps : goal.invariant-steps
invariant-steps l =
    IsAnswer (take l.first (steps_of l.facts.content l.«package»)) (barred_by l.barred) (may_take l.skip) l.reached
