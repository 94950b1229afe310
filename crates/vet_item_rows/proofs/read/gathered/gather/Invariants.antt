-- Each with the items so far that are filed under its key.
use Rattle.std.proofs.Common.{◌≡◌, map}
use Rattle.vet_item_rows.specs.Gathered.{gathered}
use Rattle.vet_item_rows.proofs.read.gathered.gather.Given as goal

abbrev pub invariant-filed : goal.invariant-filed
invariant-filed g l =
    (l.groups.items ≡ map (gathered g.H.Key.Ord.cmp g.H.HasKey.key_of l.yielded) l.fn.heads.items)
