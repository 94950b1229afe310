-- The texts, worked out.
use Rattle.std.proofs.Common.{refl}
use Rattle.std.specs.Fmt.{char_count, digits}
use Rattle.vet_reports.specs.Columns.{left_in}
use Rattle.vet_reports.specs.StandingText.{stand_line}
use Rattle.vet_reports.proofs.standing_text.standing_by_example.Goals as goal

pub returns : goal.returns
unfolding stand_line char_count digits left_in
returns c = record { all = refl; of_another_package = refl; of_a_class = refl }
