-- The criteria of the names so far are the same.
use Rattle.std.proofs.Common.{◌≡◌, take}
use Rattle.std.specs.FinMap as map
use Rattle.std.specs.List.{All}
use Rattle.vet_masks.proofs.table.are_within.Given as goal

abbrev pub invariant-names : goal.invariant-names
invariant-names l = All (λ name. map.get l.table name ≡ map.get l.other name) (take l.place l.names)
