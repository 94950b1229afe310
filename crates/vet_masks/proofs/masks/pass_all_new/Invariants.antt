-- The steps so far have passed on what their origins had.
use Rattle.std.proofs.Common.{◌≡◌, ◌+◌, ◌≤◌, take}
use Rattle.vet_base.specs.declared.limits.TheConstants.{MOST_CRITERIA as most}
use Rattle.vet_masks.specs.Masks.{GoesOn, IsPassing, IsSearch, size, spent}
use Rattle.vet_masks.proofs.masks.pass_all_new.Given as goal

abbrev pub invariant-steps : goal.invariant-steps
invariant-steps l =
    let used = size most l.index.used in
    let passed = l.fn.masks.passed.items in
    record {
      least : l.fn.looks.count ≤ l.looks.count;
      steps : l.looks.steps ≡ l.fn.looks.steps;
      onward : GoesOn l.fn.masks l.masks;
      search : IsSearch l.fn.looks.steps l.index l.terms l.masks;
      passing : IsPassing l.fn.looks.steps l.index l.terms l.masks l.place;
      count : l.looks.count + spent used passed (take l.first l.index.ends.items)
          ≤ l.fn.looks.count + spent used passed (take l.place l.index.ends.items);
      bound : l.looks.count + l.first ≤ l.fn.looks.count + l.place;
    }
