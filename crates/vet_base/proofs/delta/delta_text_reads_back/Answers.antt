use Rattle.vet_base.proofs.DeltaText.{read_delta-text}
use Rattle.vet_base.proofs.delta.delta_text_reads_back.Goals as goal

pub returns : goal.returns
returns c = read_delta-text c.args.delta.now c.version_text_reads_back.ensures c.version_text_reads_back-2.ensures
