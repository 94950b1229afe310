-- The packages so far, and those at which what is left of the two demands differs.
use Rattle.std.proofs.Common.{◌≡◌, ◌++◌, ◌+◌, ◌-◌, ◌≤◌, length, drop}
use Rattle.vet_register.specs.Touches.{packages_between}
use Rattle.vet_register.proofs.touching.touched_between.Given as goal

abbrev pub invariant-loop-old : goal.invariant-loop-old
invariant-loop-old l = record {
  old : l.old ≤ length l.before;
  new : l.new ≤ length l.after;
  so_far : l.names.items ++ packages_between (drop l.old l.before) (drop l.new l.after)
      ≡ packages_between l.before l.after;
}

abbrev pub decreases-loop-old : goal.decreases-loop-old
decreases-loop-old l = (length l.before + length l.after) - (l.old + l.new)
