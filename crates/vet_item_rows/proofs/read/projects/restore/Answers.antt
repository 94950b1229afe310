use Rattle.std.proofs.Common.{◌≡◌, ◌∙◌, sym}
use Rattle.std.proofs.lemmas.Option.{same_Some}
use Rattle.vet_item_rows.proofs.ProjectsRead.{restored}
use Rattle.vet_item_rows.proofs.Reading.{none_found, some_found}
use Rattle.vet_item_rows.proofs.read.projects.restore.Goals as goal

pub returns-in_err-found : goal.returns-in_err-found
returns-in_err-found c p is named nodes edges =
    let back = restored p c.args.nodes.items c.in_ok-edges.edges.items is nodes
    (c.in_ok-edges.ensures p.project.edges is.edges_in_order edges) c.restore.result c.restore.ensures.is
    c.restore.ensures.value in
    cc (sym (none_found c.restore.result c.in_err-found.field-0.0 c.in_err-found.ensures) ∙ back)

pub returns : goal.returns
returns c p is named nodes edges =
    let back = restored p c.args.nodes.items c.in_ok-edges.edges.items is nodes
    (c.in_ok-edges.ensures p.project.edges is.edges_in_order edges) c.restore.result c.restore.ensures.is
    c.restore.ensures.value in
    let project : c.in_ok-found.field-0 ≡ p.project = same_Some c.in_ok-found.field-0 p.project
    (sym (some_found c.restore.result c.in_ok-found.field-0 c.in_ok-found.ensures) ∙ back) in
    let whole = c.name.view_is ∙ named in
    λ i. record { name = whole i; project = project i }
