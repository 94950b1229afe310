-- The definitions are those of the criteria so far, and what is left are the others.
use Rattle.std.proofs.Common.{◌≡◌, ◌++◌}
use Rattle.std.specs.Vec.Iter.{into_iter_items}
use Rattle.vet_base.specs.Defined.{defined}
use Rattle.vet_base.proofs.definitions.Definitions.with_built_in.Given as goal

abbrev pub invariant-criteria : goal.invariant-criteria
invariant-criteria l =
    (goal.iterator-criteria).can_next l.criterion-iterator
    × (goal.iterator-criteria).is_finite l.criterion-iterator
    × (l.definitions ≡ defined l.yielded)
    × (l.yielded ++ into_iter_items l.criterion-iterator ≡ l.fn.criteria.items)
