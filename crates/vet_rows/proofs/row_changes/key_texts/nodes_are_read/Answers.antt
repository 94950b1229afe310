use Rattle.vet_base.specs.Version.{IsVersion}
use Rattle.vet_demand.specs.declared.project.Node.{Node}
use Rattle.vet_rows.proofs.SoFar.{one_more}
use Rattle.vet_rows.proofs.row_changes.key_texts.nodes_are_read.Goals as goal

pub each-preserved : goal.each-preserved
each-preserved c =
    one_more (λ (n : Node). IsVersion n.version) c.nodes-nodes.result.now c.each.node-index c.node-item.result
    c.each-test.true c.node-item.is c.each.invariant c.version_text_reads_back.ensures
