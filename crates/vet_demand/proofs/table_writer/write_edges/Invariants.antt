-- What is written so far, and the lines of the edges that are left, are the lines of all.
use Rattle.std.proofs.Common.{◌≡◌, ◌++◌, drop, map}
use Rattle.std.specs.Prelude.{string_bytes}
use Rattle.vet_demand.specs.WrittenProject.{edge_fields, lines}
use Rattle.vet_demand.proofs.table_writer.write_edges.Given as goal

abbrev pub invariant-edges : goal.invariant-edges
invariant-edges l = string_bytes l.text ++ lines (map edge_fields (drop l.edge-index l.edges))
    ≡ string_bytes l.fn.text ++ lines (map edge_fields l.edges)
