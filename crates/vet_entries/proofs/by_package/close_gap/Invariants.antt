-- The places so far are moved.
use Rattle.std.proofs.Common.{◌≡◌, ◌++◌, map, take, drop}
use Rattle.vet_entries.specs.ByPackage.{down}
use Rattle.vet_entries.proofs.by_package.close_gap.Given as goal

abbrev pub invariant-loop-i : goal.invariant-loop-i
invariant-loop-i l =
    (l.order.items ≡ map (down l.place) (take l.i l.initial.order.items) ++ drop l.i l.initial.order.items)
    × (l.order.len ≡ l.initial.order.len) × (l.order.cap ≡ l.initial.order.cap)
