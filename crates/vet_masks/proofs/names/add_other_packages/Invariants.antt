-- The names from before stand first, and each package of the items so far is there or has a slot.
use Rattle.std.proofs.Common.{◌≡◌, ◌++◌, List, false, map, take}
use Rattle.vet_base.specs.Words.{Name}
use Rattle.vet_masks.specs.Packages.{has_kept_slot, is_among}
use Rattle.vet_masks.proofs.names.add_other_packages.Given as goal

abbrev pub invariant-items : goal.invariant-items
invariant-items g l = record {
  names : (more : List Name) × (l.names.items ≡ l.fn.names.items ++ more);
  others : (name : Name) → is_among name l.names.items ≡ false → has_kept_slot l.kept name ≡ false
      → is_among name (map g.T.OfPackage.package_of (take l.item-index l.items)) ≡ false;
}
