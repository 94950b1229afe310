-- What is held stays, and there are slots for the packages so far.
use Rattle.std.proofs.Common.{◌≡◌, take, true}
use Rattle.std.specs.List.{All}
use Rattle.vet_masks.specs.Keeper.{IsSameWithRoom}
use Rattle.vet_masks.specs.Packages.{has_kept_slot}
use Rattle.vet_masks.specs.Standings.{has_slot}
use Rattle.vet_masks.proofs.keeper.MaskKeeper.reserve.Given as goal

abbrev pub invariant-names : goal.invariant-names
invariant-names l = record {
  same : IsSameWithRoom l.fn.self l.self;
  made : All (λ name. has_slot l.self.standing name ≡ true) (take l.place l.names);
  kept_made : All (λ name. has_kept_slot l.self.packages name ≡ true) (take l.place l.names);
}
