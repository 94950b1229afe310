-- The one row of `meta` (ours).
use Rattle.std.specs.Prelude.{pos, ℤ, [], ◌∷◌}
use Rattle.vet_graph.specs.declared.standing.Counts.{Counts}
use Rattle.vet_item_rows.specs.Columns.{packed_names_option}
use Rattle.vet_item_rows.specs.Numbers.{HasColumn}
use Rattle.vet_item_rows.specs.Packed.{packed_option}
use Rattle.vet_register.specs.declared.tool_settings.ToolSettings.{ToolSettings}
use Rattle.vet_rows.specs.declared.meta.Meta.{Meta}
use Rattle.vet_rows.specs.declared.meta.MetaNumbers.{MetaNumbers}
use Rattle.vet_tables.specs.Cells.{Row}
use Rattle.vet_tables.specs.Versions.{version_number}
use Rattle.vet_tables.specs.declared.cell.Cell.TheVariants.{Blob, Int}

-- first its key, and the number of the version of the tables
abbrev pub numbered_row : ℤ → MetaNumbers → Counts → ToolSettings → Row
numbered_row version numbers first settings =
    Int (pos 1) ∷ Int version ∷ Int (pos numbers.step) ∷ Int (pos numbers.next_entry)
    ∷ Int (pos numbers.next_review) ∷ Int (pos numbers.moves_limit) ∷ Int (pos first.conflicting)
    ∷ Int (pos first.full) ∷ Int (pos first.partial) ∷ Int (pos first.exempted) ∷ Int (pos first.unvetted)
    ∷ Blob (packed_option settings.vet_version) ∷ Blob (packed_names_option settings.default_criteria) ∷ []

abbrev pub row_of_meta : Meta → Row
row_of_meta m = numbered_row (version_number m.version) m.numbers m.first m.settings

-- the numbers have columns
pub record MetaFits (numbers : MetaNumbers) : Type 0 where
  pub step : HasColumn numbers.step
  pub next_entry : HasColumn numbers.next_entry
  pub next_review : HasColumn numbers.next_review
  pub moves_limit : HasColumn numbers.moves_limit
