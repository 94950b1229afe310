use Rattle.vet_base.proofs.DeltaLemmas.{ending_trimmed}
use Rattle.vet_base.proofs.delta.without_ending.Goals as goal

pub returns : goal.returns
returns c = ending_trimmed c.args.text.now c.trim_end_matches.result.now c.trim_end_matches.ensures.matches
