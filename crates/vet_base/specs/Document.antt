-- The limit on the length of a document (ours).
use Rattle.std.specs.Prelude.{length, nat_lt}
use Rattle.vet_base.specs.declared.limits.TheConstants.{MOST_INPUT_BYTES}
use Rattle.vet_base.specs.declared.refusal.Limit.TheVariants.{Input}
use Rattle.vet_base.specs.declared.refusal.Refusal.TheVariants.{TooLarge}
use Rattle.vet_base.specs.Gives.{Told, refuse_if}
use Rattle.vet_base.specs.Words.{Bytes}

-- a document that is too long is refused
abbrev pub length_told : Bytes → Told (Unit {0})
length_told document = refuse_if (nat_lt MOST_INPUT_BYTES (length document)) (TooLarge Input)
