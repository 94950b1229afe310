use Rattle.vet_base.specs.Version.{IsVersion}
use Rattle.vet_register.specs.declared.moves.RecordedMove.{RecordedMove}
use Rattle.vet_rows.proofs.SoFar.{one_more}
use Rattle.vet_rows.proofs.row_changes.key_texts.moves_are_read.Goals as goal

pub moves-preserved : goal.moves-preserved
moves-preserved c =
    one_more (λ (m : RecordedMove). IsVersion m.change.pair.version)
    c.args.moves.now c.moves.recorded-index c.recorded-item.result c.moves-test.true c.recorded-item.is
    c.moves.invariant c.version_text_reads_back.ensures
