-- The moves so far, and those between what is left.
use Rattle.std.proofs.Common.{◌≡◌, ◌++◌, ◌+◌, ◌-◌, ◌≤◌, length, drop}
use Rattle.vet_graph.specs.Moves.{moves_between}
use Rattle.vet_graph.proofs.moves.differences.Given as goal

abbrev pub invariant-loop-old : goal.invariant-loop-old
invariant-loop-old l = record {
  old : l.old ≤ length l.before;
  new : l.new ≤ length l.after;
  so_far : l.moves.items ++ moves_between (drop l.old l.before) (drop l.new l.after) ≡ moves_between l.before l.after;
}

abbrev pub decreases-loop-old : goal.decreases-loop-old
decreases-loop-old l = (length l.before + length l.after) - (l.old + l.new)
