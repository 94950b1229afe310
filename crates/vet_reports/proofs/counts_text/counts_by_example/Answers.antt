-- The texts, worked out.
use Rattle.std.proofs.Common.{refl}
use Rattle.std.specs.Fmt.{char_count, digits}
use Rattle.vet_reports.specs.Columns.{left_in, right_in}
use Rattle.vet_reports.specs.CountsText.{row}
use Rattle.vet_reports.proofs.counts_text.counts_by_example.Goals as goal

pub returns : goal.returns
unfolding row char_count digits left_in right_in
returns c = refl
