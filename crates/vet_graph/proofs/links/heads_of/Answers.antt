use Rattle.std.proofs.Common.{ap}
use Rattle.std.specs.BTreeMap.{get}
use Rattle.vet_base.specs.VersionOrder.{version_cmp}
use Rattle.vet_graph.specs.declared.guarded.GuardedStep.{GuardedStep}
use Rattle.vet_graph.proofs.Linking.{AreHeads-next, at_place}
use Rattle.vet_graph.proofs.links.heads_of.Goals as goal

pub steps-preserved : goal.steps-preserved
steps-preserved c =
    let same = ap (λ (g : GuardedStep). g.step.target)
    (at_place c.args.steps.now c.steps.place c.index-steps-place.result c.steps-test.true) in
    rw c.in_ok-push.ensures.items
    (AreHeads-next c.args.steps.now (get version_cmp c.steps.numbers)
    (get version_cmp c.head_of.new.numbers) c.steps.heads.items c.steps.place c.in_ok-head.head _
    c.steps.invariant same c.in_ok-head.ensures.head c.in_ok-head.ensures.knows)
