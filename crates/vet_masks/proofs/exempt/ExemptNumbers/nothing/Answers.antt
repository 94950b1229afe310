use Rattle.std.proofs.Common.{refl}
use Rattle.vet_masks.proofs.ExemptVersions.{none-numbered}
use Rattle.vet_masks.proofs.exempt.ExemptNumbers.nothing.Goals as goal

pub returns-clause-numbers : goal.returns-clause-numbers
returns-clause-numbers c = none-numbered (record { numbers = c.new.result; count = 0 }) c.new.ensures.items refl
