use Rattle.vet_base.specs.Version.{IsVersion}
use Rattle.vet_demand.specs.declared.pair.Pair.{Pair}
use Rattle.vet_rows.proofs.SoFar.{one_more}
use Rattle.vet_rows.proofs.row_changes.key_texts.pairs_are_read.Goals as goal

pub pairs-preserved : goal.pairs-preserved
pairs-preserved c =
    one_more (λ (p : Pair). IsVersion p.version)
    c.args.pairs.now c.pairs.pair-index c.pair-item.result c.pairs-test.true c.pair-item.is
    c.pairs.invariant c.version_text_reads_back.ensures
