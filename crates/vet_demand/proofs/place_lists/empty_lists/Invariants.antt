-- So many empty lists.
use Rattle.std.proofs.Common.{◌≡◌, [], replicate}
use Rattle.vet_demand.specs.Spread.{lists_in}
use Rattle.vet_demand.proofs.place_lists.empty_lists.Given as goal

abbrev pub invariant-lists : goal.invariant-lists
invariant-lists l = lists_in l.lists.items ≡ replicate l._place []
