-- The packages of the entries so far that have lapsed on only one of the two days.
use Rattle.std.proofs.Common.{◌≡◌, ◌++◌, filter, map, take}
use Rattle.vet_register.specs.Touches.{held_package, lapses_between}
use Rattle.vet_register.proofs.touching.push_of_lapsing.Given as goal

abbrev pub invariant-loop-place : goal.invariant-loop-place
invariant-loop-place l =
    l.names.items
    ≡ l.fn.names.items ++ map held_package (filter (lapses_between l.fn.before l.fn.after) (take l.place l.entries))
