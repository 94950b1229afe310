-- The cells of a row that is known.
use Rattle.std.proofs.Common.{◌≡◌, ◌∙◌, ℕ, Result, Ok, ap, w64}
use Rattle.std.specs.List.{slice_get}
use Rattle.std.specs.Prelude.{ℤ}
use Rattle.std.proofs.lemmas.Int.{to_z-of_z}
use Rattle.vet_item_rows.specs.declared.read.read_error.ReadError.{ReadError}
use Rattle.vet_tables.specs.Cells.{Row}
use mir.Val.{SFits, of_z, to_z}

pub place : (i : ℕ) {row known : Row} → row ≡ known → slice_get row i ≡ slice_get known i
place i is = ap (λ (r : Row). slice_get r i) is

-- a number that was read, as it is passed on
pub column : (z v : ℤ) → SFits w64 z → ◌≡◌ {A = Result ℤ ReadError} (Ok z) (Ok v) → to_z w64 (of_z w64 z) ≡ v
column z v fits e = (let same : z ≡ v = cc e in to_z-of_z w64 z fits ∙ same)
