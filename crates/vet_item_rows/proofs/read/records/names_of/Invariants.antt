-- The packages of the records so far.
use Rattle.std.proofs.Common.{◌≡◌, map, take}
use Rattle.vet_item_rows.proofs.read.records.names_of.Given as goal

abbrev pub invariant-records : goal.invariant-records
invariant-records l = l.names.items ≡ map (λ filed. filed.key) (take l.filed-index l.records)
