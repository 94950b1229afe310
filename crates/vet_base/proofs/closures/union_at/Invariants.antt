-- What stands at the places so far that are in the set.
use Rattle.std.proofs.Common.{◌≡◌, ◌↔◌, ℕ, true, ◌<◌, ◌-◌, get_or}
use Rattle.std.specs.FinSet as set
use Rattle.vet_base.specs.declared.limits.TheConstants.{MOST_CRITERIA as most}
use Rattle.vet_base.specs.CriteriaSet.{has}
use Rattle.vet_base.proofs.closures.union_at.Given as goal

abbrev pub invariant-places : goal.invariant-places
invariant-places l =
    (q : ℕ) → (has q l.joined ≡ true) ↔
    ((p : ℕ) × (p < l.place) × ((has p l.places ≡ true) × (has q (get_or l.sets p set.empty) ≡ true)))

abbrev pub decreases-places : goal.decreases-places
decreases-places l = most - l.place
