-- The texts, worked out.
use Rattle.std.proofs.Common.{refl}
use Rattle.std.specs.Fmt.{char_count, digits}
use Rattle.vet_reports.specs.Columns.{left_in, right_in}
use Rattle.vet_reports.specs.MovesText.{move_line}
use Rattle.vet_reports.proofs.moves_text.moves_by_example.Goals as goal

pub returns : goal.returns
unfolding move_line char_count digits left_in right_in
returns c = refl
