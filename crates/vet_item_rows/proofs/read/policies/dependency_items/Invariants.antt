-- The items so far.
use Rattle.std.proofs.Common.{◌≡◌, map}
use Rattle.vet_item_rows.specs.ReadValues.{dependency_of}
use Rattle.vet_item_rows.proofs.read.policies.dependency_items.Given as goal

abbrev pub invariant-filed : goal.invariant-filed
invariant-filed l = l.items.items ≡ map dependency_of l.yielded
