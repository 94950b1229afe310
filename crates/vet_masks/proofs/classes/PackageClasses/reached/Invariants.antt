-- What the searches so far reach.
use Rattle.std.proofs.Common.{◌≡◌, ◌↔◌, ◌<◌, ℕ, None, true, get_or}
use Rattle.vet_base.specs.CriteriaSet.{has}
use Rattle.vet_masks.specs.Classes.{held_at, is_wanted}
use Rattle.vet_masks.specs.Rules.{rule_of}
use Rattle.vet_masks.proofs.classes.PackageClasses.reached.Given as goal

abbrev pub invariant-searches : goal.invariant-searches
invariant-searches l = (c : ℕ) → (has c l.criteria ≡ true) ↔ ((i : ℕ) × (i < l.place)
    × (is_wanted l.ends_reviewed (rule_of i) (get_or l.self.exempt.numbers.items l.number None) ≡ true)
    × (has c (held_at l.self.clean.items i l.number) ≡ true))
