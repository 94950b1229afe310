use Rattle.vet_base.proofs.DeltaLemmas.{leading_trimmed}
use Rattle.vet_base.proofs.delta.without_leading.Goals as goal

pub returns : goal.returns
returns c = leading_trimmed c.args.text.now c.trim_start_matches.result.now c.trim_start_matches.ensures.matches
