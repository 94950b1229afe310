-- The bytes that a failed write leaves (ours).
use Rattle.std.specs.Prelude.{ℕ, ◌<◌, Option, length, take}
use Rattle.std.specs.Io.KnownBytes.{Appends}
use Rattle.vet_base.specs.Words.{Bytes}

-- the first n of the bytes were written, and not all
abbrev pub AppendsPart : Option Bytes → Option Bytes → Bytes → Type 0
AppendsPart known known' bytes = (n : ℕ) × ((n < length bytes) × Appends known known' (take n bytes))
