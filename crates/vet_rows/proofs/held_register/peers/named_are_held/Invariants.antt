-- Those of the names so far.
use Rattle.std.proofs.Common.{take}
use Rattle.std.specs.List.{All}
use Rattle.vet_item_rows.specs.Values.{IsCriterion, MayBe}
use Rattle.vet_register.specs.HeldFiles.{further_at}
use Rattle.vet_rows.proofs.held_register.peers.named_are_held.Given as goal

abbrev pub invariant-names : goal.invariant-names
invariant-names l = All (λ n. MayBe IsCriterion (further_at l.table n)) (take l.name-index l.names)
