-- The records of the packages so far stand in order.
use Rattle.std.proofs.Common.{take}
use Rattle.std.specs.List.{All}
use Rattle.vet_entries.specs.Publishers.{IsInOrder}
use Rattle.vet_entries.specs.declared.publisher_records.PackagePublishers.{PackagePublishers}
use Rattle.vet_register.proofs.sound_held.stand_in_order.Given as goal

abbrev pub invariant-packages : goal.invariant-packages
invariant-packages l = All (λ (held : PackagePublishers). IsInOrder held.publishers) (take l.held-index l.packages)
