-- The names so far, and those to come.
use Rattle.std.proofs.Common.{◌≡◌, ◌++◌}
use Rattle.std.specs.BTreeMap.{keys}
use Rattle.vet_masks.proofs.names.add_keys.Given as goal

abbrev pub invariant-names : goal.invariant-names
invariant-names g l = record {
  next : (goal.iterator-names g).can_next l.name-iterator;
  finite : (goal.iterator-names g).is_finite l.name-iterator;
  items : l.names.items ++ l.name-iterator ≡ l.fn.names.items ++ keys l.packages;
}
