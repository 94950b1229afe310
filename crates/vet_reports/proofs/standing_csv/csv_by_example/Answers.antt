-- The texts, worked out.
use Rattle.std.proofs.Common.{refl}
use Rattle.std.specs.Fmt.{digits}
use Rattle.csv.specs.Writing.{escaped, fields_text, is_blank}
use Rattle.vet_reports.specs.StandingCsv.{stand_record}
use Rattle.vet_reports.proofs.standing_csv.csv_by_example.Goals as goal

pub returns : goal.returns
unfolding stand_record digits escaped fields_text is_blank
returns c = record { plain = refl; quoted = refl }
