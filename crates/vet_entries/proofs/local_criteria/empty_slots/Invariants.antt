-- The slots so far, with nothing in them.
use Rattle.std.proofs.Common.{◌≡◌, None, replicate}
use Rattle.vet_entries.proofs.local_criteria.empty_slots.Given as goal

abbrev pub invariant-slots : goal.invariant-slots
invariant-slots g l = l.slots.items ≡ replicate l._place None
