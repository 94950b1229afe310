-- The steps so far, with what condemns their targets, and the versions that have been judged.
use Rattle.std.proofs.Common.{◌≡◌}
use Rattle.std.specs.BTreeMap.{get}
use Rattle.vet_base.specs.VersionOrder.{version_cmp}
use Rattle.vet_entries.specs.Condemned.{condemned_by}
use Rattle.vet_entries.specs.Judge.{AreJudged}
use Rattle.vet_graph.specs.Search.{AreGuarded, steps_in}
use Rattle.vet_graph.proofs.package_steps.guarded.Given as goal

abbrev pub invariant-steps : goal.invariant-steps
invariant-steps l =
    (goal.iterator-steps).can_next l.step-iterator
    × (goal.iterator-steps).is_finite l.step-iterator
    × (steps_in l.guarded.items ≡ l.yielded)
    × AreGuarded (condemned_by l.violations) l.guarded.items
    × AreJudged l.merged.items (get version_cmp l.judged)
