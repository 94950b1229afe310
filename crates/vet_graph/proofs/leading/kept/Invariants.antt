-- Those that are kept so far, and those to come.
use Rattle.std.proofs.Common.{◌≡◌, ◌++◌, filter}
use Rattle.std.specs.BTreeSet.{contains}
use Rattle.vet_base.specs.VersionOrder.{version_cmp}
use Rattle.vet_graph.proofs.leading.kept.Given as goal

abbrev pub invariant-steps : goal.invariant-steps
invariant-steps l = record {
  next : (goal.iterator-steps).can_next l.step-iterator;
  finite : (goal.iterator-steps).is_finite l.step-iterator;
  items : l.kept.items ++ filter (λ s. contains version_cmp l.versions s.target) l.step-iterator.rest.items
      ≡ filter (λ s. contains version_cmp l.versions s.target) l.fn.steps.items;
}
