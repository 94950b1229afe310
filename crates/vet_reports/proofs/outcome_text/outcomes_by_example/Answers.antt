-- The texts, worked out.
use Rattle.std.proofs.Common.{refl}
use Rattle.std.specs.Fmt.{digits}
use Rattle.vet_reports.proofs.outcome_text.outcomes_by_example.Goals as goal

pub returns : goal.returns
unfolding digits
returns c = record { done = refl; numbered = refl; already = refl; held = refl }
