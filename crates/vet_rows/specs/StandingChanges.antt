-- The rows of the standing and of moves that are removed and added for what is recorded (ours).
use Rattle.std.specs.Prelude.{◌≡◌, Bool, List, [], ◌∷◌, filter, is_none, is_some, map}
use Rattle.vet_base.specs.Items.{IsIn}
use Rattle.vet_base.specs.Version.{version_text}
use Rattle.vet_graph.specs.declared.moves.Move.{Move}
use Rattle.vet_item_rows.specs.Columns.{class_or_none}
use Rattle.vet_register.specs.declared.moves.RecordedMove.{RecordedMove}
use Rattle.vet_register.specs.declared.moves.Recording.{Recording}
use Rattle.vet_register.specs.declared.moves.Recording.TheVariants.{Behind, Anew}
use Rattle.vet_rows.specs.RowExchanges.{exchange_of}
use Rattle.vet_rows.specs.StandingRows.{move_row}
use Rattle.vet_rows.specs.declared.row_change.RowChange.{RowChange}
use Rattle.vet_rows.specs.declared.row_change.RowChange.TheVariants.{Put, Drop, Clear}
use Rattle.vet_rows.specs.declared.row_changes.exchange.Exchange.{Exchange}
use Rattle.vet_tables.specs.Cells.{Row}
use Rattle.vet_tables.specs.declared.cell.Cell.{Cell}
use Rattle.vet_tables.specs.declared.cell.Cell.TheVariants.{Int, Text}
use Rattle.vet_tables.specs.declared.table_name.TableName.{TableName}
use Rattle.vet_tables.specs.declared.table_name.TableName.TheVariants as table

-- the moves that are recorded
abbrev pub recorded_moves : Recording → List RecordedMove
recorded_moves (Behind more) = more.items
recorded_moves (Anew counts) = []

-- the row of a pair after a recorded move; if it isn't demanded any more, with the number for no class
abbrev pub moved_row : RecordedMove → Row
moved_row m =
    Text m.change.pair.«package» ∷ Text (version_text m.change.pair.version) ∷ Text m.change.pair.criterion
    ∷ Int (class_or_none m.change.after) ∷ []

-- a pair isn't demanded any more; a pair has a class
abbrev pub leaves : RecordedMove → Bool
leaves m = is_none m.change.after

abbrev pub stands : RecordedMove → Bool
stands m = is_some m.change.after

abbrev pub standing_removed : Recording → List Row
standing_removed recording = map moved_row (filter leaves (recorded_moves recording))

abbrev pub standing_added : Recording → List Row
standing_added recording = map moved_row (filter stands (recorded_moves recording))

abbrev pub moves_added : Recording → List Row
moves_added recording = map move_row (recorded_moves recording)

-- a move is removed only with all others: if a period begins, none stays
abbrev pub move_exchanges : Recording → List Exchange
move_exchanges recording =
    exchange_of table.Standing (standing_removed recording) (standing_added recording)
    ∷ exchange_of table.Moves [] (moves_added recording) ∷ []

abbrev pub clear_moves : Recording → List RowChange
clear_moves (Behind more) = []
clear_moves (Anew counts) = Clear table.Moves ∷ []

-- ---- whose rows these are

-- a row is that of the pair of one of some moves, in any class
abbrev pub IsOfMove : List Move → Row → Type 0
IsOfMove moves r = (m : Move) × (IsIn m moves × ((class : Cell)
    × (r ≡ Text m.pair.«package» ∷ Text (version_text m.pair.version) ∷ Text m.pair.criterion ∷ class ∷ [])))

-- a row of the standing is such a row; nothing is asked of the other tables
abbrev pub RowIsOfMoves : List Move → TableName → Row → Type 0
RowIsOfMoves moves table.Standing r = IsOfMove moves r
RowIsOfMoves moves _ r = Unit {0}

-- the standing is never emptied
abbrev pub IsOther : TableName → Type 0
IsOther table.Standing = ⊥
IsOther _ = Unit {0}

-- so is the row that a change puts or removes
abbrev pub IsOfMoves : List Move → RowChange → Type 0
IsOfMoves moves (Put table r) = RowIsOfMoves moves table r
IsOfMoves moves (Drop table r) = RowIsOfMoves moves table r
IsOfMoves moves (Clear table) = IsOther table
