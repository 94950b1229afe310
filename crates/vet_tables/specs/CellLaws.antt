-- Cells are equal where they are the same cell (ours).
use Rattle.std.specs.Prelude.{◌≡◌}
use Rattle.std.specs.Bool.{Decides}
use Rattle.std.specs.Cmp.{signed_Decides}
use Rattle.std.specs.Cmp.Lexicographic.{bytes_decides}
use Rattle.std.proofs.Common.{ap}
use Rattle.std.proofs.lemmas.Bool.Decides.{Decides-like}
use Rattle.vet_tables.specs.Cells.{cell_eq}
use Rattle.vet_tables.specs.declared.cell.Cell.{Cell}
use Rattle.vet_tables.specs.declared.cell.Cell.TheVariants.{Int, Text, Blob}

pub cell_eq-Decides : (a b : Cell) → Decides (cell_eq a b) (a ≡ b)
cell_eq-Decides (Int m) (Int n) = Decides-like _ (λ e. ap Int e) (λ e. cc e) (signed_Decides m n)
cell_eq-Decides (Text s) (Text t) = Decides-like _ (λ e. ap Text e) (λ e. cc e) (bytes_decides s t)
cell_eq-Decides (Blob b) (Blob c) = Decides-like _ (λ e. ap Blob e) (λ e. cc e) (bytes_decides b c)
cell_eq-Decides (Int m) (Text t) = (λ h. cc h, λ e. cc e)
cell_eq-Decides (Int m) (Blob c) = (λ h. cc h, λ e. cc e)
cell_eq-Decides (Text s) (Int n) = (λ h. cc h, λ e. cc e)
cell_eq-Decides (Text s) (Blob c) = (λ h. cc h, λ e. cc e)
cell_eq-Decides (Blob b) (Int n) = (λ h. cc h, λ e. cc e)
cell_eq-Decides (Blob b) (Text t) = (λ h. cc h, λ e. cc e)
