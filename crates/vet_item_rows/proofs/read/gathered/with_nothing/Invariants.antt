-- Those so far, each with nothing filed.
use Rattle.std.proofs.Common.{◌≡◌, [], map}
use Rattle.vet_item_rows.specs.Gathered.{gathered}
use Rattle.vet_item_rows.proofs.read.gathered.with_nothing.Given as goal

abbrev pub invariant-heads : goal.invariant-heads
invariant-heads g l =
    (l.groups.items ≡ map (gathered g.H.Key.Ord.cmp g.H.HasKey.key_of []) l.yielded)
