-- The stands of the packages so far, and of those to come.
use Rattle.std.proofs.Common.{◌≡◌, ◌++◌, map}
use Rattle.std.specs.List.{flat_map}
use Rattle.vet_masks.specs.Standings.{all_stands}
use Rattle.vet_masks.proofs.standing.Standing.all.Given as goal

abbrev pub invariant-packages : goal.invariant-packages
invariant-packages l = record {
  next : (goal.iterator-packages).can_next l.stands-iterator;
  finite : (goal.iterator-packages).is_finite l.stands-iterator;
  items : map (λ s. s.now) l.all.items ++ flat_map (λ v. v.items) l.stands-iterator ≡ all_stands l.self;
}
