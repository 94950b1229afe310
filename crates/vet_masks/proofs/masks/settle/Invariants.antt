-- What waits has not passed all on.
use Rattle.std.proofs.Common.{◌≡◌, ℕ, ◌+◌, ◌-◌, ◌*◌, ◌<◌, ◌≤◌, length}
use Rattle.std.specs.List.{All}
use Rattle.vet_base.specs.declared.limits.TheConstants.{MOST_CRITERIA as most}
use Rattle.vet_masks.specs.Masks.{AreWaiting, Grows, IsPassing, IsSearch, filled, spent}
use Rattle.vet_masks.proofs.masks.settle.Given as goal

abbrev pub invariant-versions : goal.invariant-versions
invariant-versions l =
    let ends = l.index.ends.items in
    record {
      least : l.fn.looks.count ≤ l.looks.count;
      steps : l.looks.steps ≡ l.fn.looks.steps;
      search : IsSearch l.fn.looks.steps l.index l.terms l.masks;
      passing : IsPassing l.fn.looks.steps l.index l.terms l.masks (length l.fn.looks.steps);
      grows : Grows l.fn.masks.held.items l.masks.held.items;
      waiting : AreWaiting l.masks.held.items l.masks.passed.items l.masks.waiting.items;
      within : All (λ n. n < length l.index.after.items) l.masks.waiting.items;
      count : (u : ℕ) → l.looks.count + spent u l.fn.masks.passed.items ends
          ≤ l.fn.looks.count + spent u l.masks.passed.items ends;
    }

abbrev pub decreases-versions : goal.decreases-versions
decreases-versions l = most * length l.index.after.items - filled l.masks.held.items + length l.masks.waiting.items
