-- Those so far.
use Rattle.std.proofs.Common.{take}
use Rattle.vet_base.specs.Items.{IsIn}
use Rattle.vet_base.specs.Version.{IsVersion}
use Rattle.vet_demand.specs.declared.project.Node.{Node}
use Rattle.vet_rows.proofs.row_changes.key_texts.nodes_are_read.Given as goal

abbrev pub invariant-each : goal.invariant-each
invariant-each l = (n : Node) → IsIn n (take l.node-index l.nodes) → IsVersion n.version
