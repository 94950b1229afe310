use Rattle.std.specs.Prelude.{string_bytes}
use Rattle.vet_demand.proofs.WrittenLines.{edge_written, edges_written}
use Rattle.vet_demand.specs.declared.project.Edge.{Edge}
use Rattle.vet_demand.specs.declared.project.EdgeKind.TheVariants.{Normal}
use Rattle.vet_demand.proofs.table_writer.write_edges.Goals as goal

abbrev any_edge : Edge
any_edge = record { from = 0; to = 0; kind = Normal }

pub edges-preserved : goal.edges-preserved
edges-preserved c =
    edge_written (string_bytes c.args.text.now) (string_bytes c.edges.text) (string_bytes c.write_edge.new.text)
    c.args.edges.now c.edges.edge-index any_edge
    c.edges-test.true c.edges.invariant c.in_ok-write_edge.ensures

pub returns : goal.returns
returns c =
    edges_written (string_bytes c.args.text.now) (string_bytes c.edges.text)
    c.args.edges.now c.edges.edge-index c.edges-test.false c.edges.invariant
