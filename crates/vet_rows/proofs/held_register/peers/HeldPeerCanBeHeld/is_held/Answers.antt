use Rattle.std.proofs.Common.{subst}
use Rattle.std.specs.List.{All}
use Rattle.vet_item_rows.specs.ReadHeld.{AreCriteria}
use Rattle.vet_item_rows.specs.Values.{IsHeldEntry}
use Rattle.vet_rows.proofs.held_register.peers.HeldPeerCanBeHeld.is_held.Goals as goal

pub returns : goal.returns
returns c = record {
  settings = c.is_held.ensures;
  criteria = subst AreCriteria c.definitions.ensures c.is_held-2.ensures;
  entries = subst (All IsHeldEntry) c.entries.ensures.value c.are_held.ensures;
}
