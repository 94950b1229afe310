-- The rows of recorded moves (ours).
use Rattle.std.specs.Prelude.{pos, [], ◌∷◌}
use Rattle.vet_base.specs.Day.{day_number}
use Rattle.vet_base.specs.Version.{version_text}
use Rattle.vet_item_rows.specs.Columns.{class_or_none}
use Rattle.vet_register.specs.declared.moves.RecordedMove.{RecordedMove}
use Rattle.vet_tables.specs.Cells.{Row}
use Rattle.vet_tables.specs.declared.cell.Cell.TheVariants.{Int, Text}

abbrev pub move_row : RecordedMove → Row
move_row m =
    Int (pos m.step) ∷ Text m.change.pair.«package» ∷ Text (version_text m.change.pair.version)
    ∷ Text m.change.pair.criterion ∷ Int (day_number m.day) ∷ Int (class_or_none m.change.before)
    ∷ Int (class_or_none m.change.after) ∷ []
