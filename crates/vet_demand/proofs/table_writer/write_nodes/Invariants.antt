-- What is written so far, and the lines of the nodes that are left, are the lines of all; those written are named.
use Rattle.std.proofs.Common.{◌≡◌, ◌<◌, ◌++◌, ℕ, drop, get_or}
use Rattle.std.specs.Prelude.{string_bytes}
use Rattle.vet_demand.specs.WrittenProject.{IsNamed, lines, node_records}
use Rattle.vet_demand.specs.declared.project.Node.{Node}
use Rattle.vet_demand.proofs.table_writer.write_nodes.Given as goal

abbrev pub invariant-nodes : goal.invariant-nodes
invariant-nodes l = (string_bytes l.text ++ lines (node_records l.place (drop l.place l.nodes))
    ≡ string_bytes l.fn.text ++ lines (node_records 0 l.nodes)) × ((k : ℕ) (d : Node) → k < l.place
    → IsNamed (get_or l.nodes k d))
