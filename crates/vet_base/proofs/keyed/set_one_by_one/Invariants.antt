-- The items so far, set one after another.
use Rattle.std.proofs.Common.{◌≡◌, []}
use Rattle.vet_base.specs.Keyed.{all_set}
use Rattle.vet_base.proofs.keyed.set_one_by_one.Given as goal

abbrev pub invariant-loop-item : goal.invariant-loop-item
invariant-loop-item g l = l.keyed.items ≡ all_set g.T.Key.Ord.cmp g.T.HasKey.key_of [] l.yielded
