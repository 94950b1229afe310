use Rattle.std.proofs.Common.{◌∙◌, refl}
use Rattle.vet_item_rows.proofs.ProjectsRead.{edges_read, edges_stand}
use Rattle.vet_item_rows.proofs.Reading.{passed_on}
use Rattle.vet_item_rows.proofs.read.projects.project.Goals as goal

pub returns-in_err-edges : goal.returns-in_err-edges
returns-in_err-edges c p tells =
    let is = tells.can_be_held.project in
    let nodes = c.in_ok-nodes.ensures p.project.nodes is.nodes_in_order tells.same_nodes in
    let stand = edges_stand p is c.args.ends.now tells.same_edges c.as_slice.result.now
    (c.as_slice.ensures.value ∙ nodes) in
    rw (passed_on c.from_residual-in_err-edges.result c.in_err-edges.field-0.0 c.from_residual-in_err-edges.ensures.1
    (c.in_err-edges.ensures stand.0 stand.1.0 stand.1.1)) refl

pub returns : goal.returns
returns c p tells =
    let is = tells.can_be_held.project in
    let nodes = c.in_ok-nodes.ensures p.project.nodes is.nodes_in_order tells.same_nodes in
    c.restore.ensures p is tells.named nodes
    (edges_read p is c.args.ends.now tells.same_edges c.as_slice.result.now (c.as_slice.ensures.value ∙ nodes)
    c.in_ok-edges.edges.items c.in_ok-edges.ensures)
