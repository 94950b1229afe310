use Rattle.std.proofs.Common.{refl}
use Rattle.vet_item_rows.proofs.ProjectsRead.{ends_read, ends_stand, nodes_read, nodes_stand}
use Rattle.vet_item_rows.proofs.Reading.{passed_on}
use Rattle.vet_item_rows.proofs.read.projects.projects.Goals as goal

pub returns-in_err-nodes : goal.returns-in_err-nodes
returns-in_err-nodes c ps up each nodes edges =
    let stand = nodes_stand ps each c.args.nodes.now nodes in
    rw (passed_on c.from_residual.result c.in_err-nodes.field-0.0 c.from_residual.ensures.1
    (c.in_err-nodes.ensures stand.0 stand.1)) refl

pub returns-in_err-read_rows : goal.returns-in_err-read_rows
returns-in_err-read_rows c ps up each nodes edges =
    let stand = ends_stand ps each c.args.edges.now edges in
    rw (passed_on c.from_residual-in_err-read_rows.result c.in_err-read_rows.field-0.0
    c.from_residual-in_err-read_rows.ensures.1 (c.in_err-read_rows.ensures stand.0 stand.1)) refl

pub returns : goal.returns
returns c ps up each nodes edges =
    c.projects_of.ensures ps (record {
      by_name = up;
      each = each;
      same_nodes = nodes_read ps each c.args.nodes.now nodes c.in_ok-nodes.nodes.items c.in_ok-nodes.ensures;
      same_edges = ends_read ps each c.args.edges.now edges c.in_ok-read_rows.field-0.items c.in_ok-read_rows.ensures;
    })
