-- The names from before stand first, and the packages of the entries of one's own and of the peers so far are there or
-- have a slot.
use Rattle.std.proofs.Common.{◌≡◌, ◌++◌, List, [], None, false, take}
use Rattle.std.specs.List.{flat_map}
use Rattle.vet_base.specs.Words.{Name}
use Rattle.vet_entries.specs.Step.{sourced, taken_from}
use Rattle.vet_masks.specs.Packages.{has_kept_slot, is_among}
use Rattle.vet_masks.proofs.names.add_entries.Given as goal

abbrev pub invariant-peers : goal.invariant-peers
invariant-peers l = record {
  names : (more : List Name) × (l.names.items ≡ l.fn.names.items ++ more);
  own : (name : Name) → is_among name l.names.items ≡ false → has_kept_slot l.kept name ≡ false
      → sourced None name l.facts.content.entries ≡ [];
  peers : (name : Name) → is_among name l.names.items ≡ false → has_kept_slot l.kept name ≡ false
      → flat_map (taken_from name) (take l.peer-index l.peer-items) ≡ [];
}
