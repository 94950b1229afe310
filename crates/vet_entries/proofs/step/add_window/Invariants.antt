-- The steps of the records so far were added.
use Rattle.std.proofs.Common.{◌≡◌, ◌++◌, take}
use Rattle.vet_entries.specs.Step.{window_steps}
use Rattle.vet_entries.proofs.step.add_window.Given as goal

abbrev pub invariant-loop-published : goal.invariant-loop-published
invariant-loop-published l = l.steps.items ≡ l.fn.steps.items ++ window_steps l.criteria
    (take l.published-index l.records) l.window
