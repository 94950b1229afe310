use Rattle.std.proofs.Common.{◌≡◌, ap, subst, ◌++◌, ◌∙◌, map}
use Rattle.std.specs.List.{All}
use Rattle.std.specs.Prelude.{string_bytes}
use Rattle.vet_demand.specs.DependencyTable.{project_of_bytes}
use Rattle.vet_demand.specs.WrittenProject.{IsNamed, edge_fields, header_record, line, lines, node_records}
use Rattle.vet_demand.proofs.WrittenLines.{all_written}
use Rattle.vet_demand.proofs.WrittenTable.{written_is_read}
use Rattle.vet_demand.proofs.table_writer.write_project.Goals as goal

pub returns-clause-read_again : goal.returns-clause-read_again
returns-clause-read_again c =
    let p = c.args.project.now in
    let header : string_bytes c.in_ok-text.text ≡ line header_record = c.in_ok-text.ensures.ok in
    let nodes : string_bytes c.write_nodes.new.text ≡ string_bytes c.in_ok-text.text ++ lines (node_records 0 p.nodes) =
    rw (← c.nodes.ensures.value) c.in_ok-write_nodes.ensures.lines in
    let edges : string_bytes c.write_edges.new.text ≡ string_bytes c.write_nodes.new.text ++ lines
    (map edge_fields p.edges) =
    rw (← c.edges.ensures.value) c.in_ok-write_edges.ensures in
    let text = all_written p (string_bytes c.in_ok-text.text) (string_bytes c.write_nodes.new.text)
    (string_bytes c.write_edges.new.text) header nodes edges in
    ap project_of_bytes text ∙ written_is_read p c.nodes.ensures.is_project
    (subst (All IsNamed) c.nodes.ensures.value c.in_ok-write_nodes.ensures.named)
