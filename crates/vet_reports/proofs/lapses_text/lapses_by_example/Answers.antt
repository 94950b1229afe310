-- The texts, worked out.
use Rattle.std.proofs.Common.{refl}
use Rattle.std.specs.Fmt.{char_count, digits}
use Rattle.vet_reports.specs.Columns.{comma_list, left_in, right_in}
use Rattle.vet_reports.specs.LapsesText.{line_for}
use Rattle.vet_reports.proofs.lapses_text.lapses_by_example.Goals as goal

pub returns : goal.returns
unfolding line_for comma_list char_count digits left_in right_in
returns c = record { held = refl; lapsed = refl; without_last_day = refl }
