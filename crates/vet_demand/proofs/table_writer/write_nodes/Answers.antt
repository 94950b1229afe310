use Rattle.std.proofs.Common.{arith}
use Rattle.std.specs.Prelude.{string_bytes}
use Rattle.vet_demand.proofs.WrittenLines.{next_named, node_written, nodes_written}
use Rattle.vet_demand.proofs.table_writer.write_nodes.Goals as goal

pub nodes-preserved : goal.nodes-preserved
nodes-preserved c =
    let nodes = c.args.nodes.now in
    let n = c.index-nodes-place.result in (
      node_written (string_bytes c.args.text.now) (string_bytes c.nodes.text) (string_bytes c.write_node.new.text)
          nodes c.nodes.place n
          c.nodes-test.true c.nodes.invariant.0 (rw (← c.index-nodes-place.is) c.in_ok-write_node.ensures.line),
      next_named nodes c.nodes.place n c.nodes.invariant.1
          (rw (← c.index-nodes-place.is) c.in_ok-write_node.ensures.named) c.nodes-test.true,
    )

pub returns-clause-lines : goal.returns-clause-lines
returns-clause-lines c =
    nodes_written (string_bytes c.args.text.now) (string_bytes c.nodes.text)
    c.args.nodes.now c.nodes.place c.nodes-test.false c.nodes.invariant.0

pub returns-clause-named : goal.returns-clause-named
returns-clause-named c = λ k d l. (let all = c.nodes-test.false in c.nodes.invariant.1 k d (omega (arith, all, l)))
