-- The steps so far lead into what was reached.
use Rattle.std.proofs.Common.{◌≡◌, ℕ, ◌+◌, ◌≤◌, true, take}
use Rattle.std.specs.List.{All}
use Rattle.vet_base.specs.CriteriaSet.{has}
use Rattle.vet_masks.specs.Masks.{GoesOn, IsSearch, LeadsOn, numbered_by, open_by}
use Rattle.vet_masks.proofs.masks.pass_all.Given as goal

abbrev pub invariant-places : goal.invariant-places
invariant-places l = record {
  count : l.looks.count ≤ l.fn.looks.count + l.place-index;
  least : l.fn.looks.count ≤ l.looks.count;
  steps : l.looks.steps ≡ l.fn.looks.steps;
  onward : GoesOn l.fn.masks l.masks;
  search : IsSearch l.fn.looks.steps l.index l.terms l.masks;
  leads : (c : ℕ) → has c l.given ≡ true
      → All (LeadsOn (numbered_by l.index l.fn.looks.steps) (open_by l.index l.terms) l.masks.held.items c)
      (take l.place-index l.at_places);
}
