-- Those so far.
use Rattle.std.proofs.Common.{take}
use Rattle.vet_rows.specs.KeyTexts.{KeysAreRead}
use Rattle.vet_rows.proofs.row_changes.key_texts.keys_are_read.Given as goal

abbrev pub invariant-policies : goal.invariant-policies
invariant-policies l = KeysAreRead (take l.policy-index l.policies)
