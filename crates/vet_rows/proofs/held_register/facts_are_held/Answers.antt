use Rattle.std.proofs.Common.{subst}
use Rattle.std.specs.List.{All}
use Rattle.vet_item_rows.specs.ReadHeld.{AreCriteria, IsPackageValue, IsPeerValue}
use Rattle.vet_item_rows.specs.Values.{IsDay, IsHeldEntry, MayBe}
use Rattle.vet_rows.proofs.held_register.facts_are_held.Goals as goal

pub returns : goal.returns
returns c = record {
  criteria = subst AreCriteria c.criteria.ensures.value c.table_is_held.ensures;
  entries = subst (All IsHeldEntry) c.entries.ensures.value c.are_held.ensures;
  peers = subst (All IsPeerValue) c.peers.ensures.value c.are_held-2.ensures;
  publishers = subst (All IsPackageValue) c.publishers.ensures.value c.are_held-3.ensures;
  today = subst (MayBe IsDay) c.today-day.ensures c.is_held.ensures;
}
