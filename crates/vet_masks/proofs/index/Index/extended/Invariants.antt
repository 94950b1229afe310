-- The steps so far are filed.
use Rattle.std.proofs.Common.{◌≡◌, ◌≤◌, ◌+◌, take, length}
use Rattle.std.specs.BTreeMap.{get}
use Rattle.vet_base.specs.VersionOrder.{version_cmp}
use Rattle.vet_masks.specs.Index.{IsIndex, Keeps}
use Rattle.vet_masks.proofs.index.Index.extended.Given as goal

abbrev pub invariant-steps : goal.invariant-steps
invariant-steps l = record {
  index : IsIndex (take l.place l.fn.looks.steps) l.index;
  keeps : Keeps (get version_cmp l.self.numbers) (get version_cmp l.index.numbers);
  more : length l.self.after.items ≤ length l.index.after.items;
  steps : l.looks.steps ≡ l.fn.looks.steps;
  count : l.looks.count + l.first ≡ l.fn.looks.count + l.place;
}
