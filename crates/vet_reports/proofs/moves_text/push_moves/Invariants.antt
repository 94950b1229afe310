-- The lines so far.
use Rattle.std.proofs.Common.{◌≡◌, ◌++◌, take}
use Rattle.std.specs.List.{flat_map}
use Rattle.std.specs.Prelude.{string_bytes}
use Rattle.vet_reports.specs.MovesText.{move_line}
use Rattle.vet_reports.proofs.moves_text.push_moves.Given as goal

abbrev pub invariant-moves : goal.invariant-moves
invariant-moves l =
    string_bytes l.text ≡ string_bytes l.fn.text ++ flat_map move_line (take l.recorded-index l.moves)
