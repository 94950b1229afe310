-- The moves so far.
use Rattle.std.proofs.Common.{◌≡◌, ◌++◌}
use Rattle.vet_masks.proofs.changes.add_all.Given as goal

abbrev pub invariant-moves : goal.invariant-moves
invariant-moves l = record {
  next : (goal.iterator-moves).can_next l.change-iterator;
  finite : (goal.iterator-moves).is_finite l.change-iterator;
  items : l.moves.items ≡ l.fn.moves.items ++ l.yielded;
}
