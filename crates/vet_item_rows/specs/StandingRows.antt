-- The rows of the standing (ours).
use Rattle.std.specs.Prelude.{[], ◌∷◌}
use Rattle.vet_base.specs.Version.{version_text}
use Rattle.vet_graph.specs.declared.standing.Stand.{Stand}
use Rattle.vet_item_rows.specs.Columns.{class_number}
use Rattle.vet_tables.specs.Cells.{Row}
use Rattle.vet_tables.specs.declared.cell.Cell.TheVariants.{Int, Text}

abbrev pub standing_row : Stand → Row
standing_row s =
    Text s.pair.«package» ∷ Text (version_text s.pair.version) ∷ Text s.pair.criterion ∷ Int (class_number s.class)
    ∷ []
