-- These are changes of the packages so far.
use Rattle.std.proofs.Common.{take}
use Rattle.vet_entries.specs.LocalCriteria.{AreLocal}
use Rattle.vet_masks.specs.Keeper.{AreChanges}
use Rattle.vet_masks.proofs.keeper.MaskKeeper.changes.Given as goal

abbrev pub invariant-names : goal.invariant-names
invariant-names l = record {
  local : AreLocal l.facts.content l.local;
  changes : AreChanges l.self l.facts.content l.demand (take l.place l.names) l.changes;
}
