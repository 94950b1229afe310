-- The bytes that reads take, and the number of reads (ours).
use Rattle.std.specs.Prelude.{ℕ, ◌≡◌, ◌++◌, ◌≤◌, Option, IfSome, length}
use Rattle.std.specs.Io.KnownBytes.{Consumes}
use Rattle.vet_base.specs.Words.{Bytes}

-- a reader, the bytes that it handed over, and the number of reads made of it
pub record Counted (R : Type 0) : Type 0 where
  pub source : R
  pub handed : Bytes
  pub made : ℕ

-- the visible state of a reader: the bytes that it has left, if these are known, and those that it handed over
pub record Heard : Type 0 where
  pub left : Option Bytes
  pub handed : Bytes

abbrev pub heard : {R : Type 0} → (R → Option Bytes) → Counted R → Heard
heard remaining reader = record { left = remaining reader.source; handed = reader.handed }

-- it handed over these bytes, after those before
pub record Hands (before after : Heard) (bytes : Bytes) : Type 0 where
  pub front : Consumes before.left after.left bytes
  pub kept : after.handed ≡ before.handed ++ bytes

-- at most this many bytes were read
abbrev pub TakesAtMost : ℕ → Heard → Heard → Type 0
TakesAtMost limit before after = (bytes : Bytes) × ((length bytes ≤ limit) × Hands before after bytes)

-- The bytes that were read, and what holds for them. It also holds for all the bytes that the reader had left, if these
-- are known.
pub record IsReadFrom (before after : Heard) (Told : Bytes → Type 0) : Type 0 where
  pub bytes : Bytes
  pub hands : Hands before after bytes
  pub told : Told bytes
  pub whole : IfSome before.left Told
