use Rattle.std.proofs.Common.{◌-◌, ◌∙◌, arith}
use Rattle.vet_masks.specs.Classes.{AreReached, bars_nothing, takes_each}
use Rattle.vet_masks.specs.Masks.{bars_at, is_taken_at}
use Rattle.vet_masks.proofs.Growing.{barred-back, bars-none, both-ok, reaching-on, taken-back, takes-any}
use Rattle.vet_masks.proofs.grown.chains.Goals as goal

pub reach-requires-clause-reaches : goal.reach-requires-clause-reaches
reach-requires-clause-reaches c =
    let index = c.args.index.now in
    let steps = c.args.looks.now.steps in
    let bars = c.as_slice.result.now in
    let flags = c.as_slice-2.result.now in
    let m = c.len-count.result in
    reaching-on index steps bars_nothing (bars_at index bars) takes_each (is_taken_at index flags)
    (bars-none steps index bars (m - 0) (c.as_slice.ensures.value ∙ c.in_ok-bars.ensures.ok))
    (takes-any steps index flags m (c.as_slice-2.ensures.value ∙ c.in_ok-skipped.ensures.ok)) c.args.first
    c.requires.first c.args.held.now c.requires.reaches

pub returns-clause-reached : goal.returns-clause-reached
returns-clause-reached c =
    let index = c.args.index.now in
    let steps = c.args.looks.now.steps in
    let bars = c.as_slice.result.now in
    let flags = c.as_slice-2.result.now in
    let m = c.len-count.result in
    both-ok c.reach.result _ _ (λ h. AreReached steps index bars_nothing takes_each h.items)
    (λ h long r. record {
      count = long;
      reaches = reaching-on index steps (bars_at index bars) bars_nothing (is_taken_at index flags) takes_each
          (barred-back steps bars_nothing (bars_at index bars)
          (bars-none steps index bars (m - 0) (c.as_slice.ensures.value ∙ c.in_ok-bars.ensures.ok)))
          (taken-back steps takes_each (is_taken_at index flags)
          (takes-any steps index flags m (c.as_slice-2.ensures.value ∙ c.in_ok-skipped.ensures.ok)))
          _ (omega arith) h.items r;
    }) c.reach.ensures.length c.reach.ensures.reaches
