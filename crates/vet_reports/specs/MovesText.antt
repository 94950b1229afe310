-- The report of moves (ours): a line for each recorded move, by step and then by pair, as they were recorded.
use Rattle.std.specs.Prelude.{List, [], ◌∷◌, ◌++◌, Option, Some, None, codes}
use Rattle.std.specs.Fmt.{decimal}
use Rattle.std.specs.List.{flat_map}
use Rattle.vet_base.specs.Day.{day_text}
use Rattle.vet_base.specs.Words.{Text}
use Rattle.vet_graph.specs.Class.{class_word}
use Rattle.vet_graph.specs.declared.class.Class.{Class}
use Rattle.vet_graph.specs.declared.moves.Move.{Move}
use Rattle.vet_register.specs.State.{State}
use Rattle.vet_register.specs.declared.moves.RecordedMove.{RecordedMove}
use Rattle.vet_reports.specs.Columns.{left_in, line, pair_columns, right_in}

-- the word of a class, or `none` if the pair isn't demanded
abbrev pub class_or_none : Option Class → Text
class_or_none None = codes "none"
class_or_none (Some class) = class_word class

-- the columns of a pair's move: the pair, and its class before and after
abbrev pub change_columns : Move → List Text
change_columns m =
    pair_columns m.pair ++ left_in 11 (class_or_none m.before) ∷ class_or_none m.after ∷ []

-- the line of a move: its step, its day, and the columns of the pair's move
unfoldable pub move_line : RecordedMove → Text
move_line m = line (right_in 8 (decimal m.step) ∷ day_text m.day ∷ change_columns m.change)

-- the report
abbrev pub moves_text : State → Text
moves_text s = flat_map move_line s.moves
