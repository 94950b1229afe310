use Rattle.std.proofs.Common.{◌∙◌, [], ap, map, refl, subst, sym}
use Rattle.std.specs.Cmp.Lexicographic.{nat_list_cmp_total}
use Rattle.vet_base.specs.Keyed.{IsByKey, all_set}
use Rattle.vet_base.proofs.Rising.{R, only_equal}
use Rattle.vet_demand.specs.NamedProject.{project_name}
use Rattle.vet_item_rows.specs.Gathered.{head_key}
use Rattle.vet_item_rows.proofs.Gathering.{gathered_by_key}
use Rattle.vet_item_rows.proofs.ProjectsRead.{own, projects_are, projects_stand}
use Rattle.vet_item_rows.proofs.Reading.{passed_on}
use Rattle.vet_item_rows.proofs.read.projects.projects_of.Goals as goal

pub gather-requires-2 : goal.gather-requires-2
gather-requires-2 c = subst (IsByKey R (head_key own)) (sym c.in_ok-with_nodes.ensures)
    (gathered_by_key R nat_list_cmp_total only_equal own c.args.nodes.items c.into_items.result.items
    (subst (IsByKey R own) (sym c.into_items.ensures.value) c.into_items.ensures.by_key))

pub returns-in_err-projects : goal.returns-in_err-projects
returns-in_err-projects c ps of =
    let names = c.into_items.ensures.value ∙ c.in_ok-names.ensures
    ∙ ap (λ fs. all_set R own [] (map (λ f. f.key) fs)) c.as_slice.ensures.value in
    let stand = projects_stand c.args.nodes.items c.args.edges.items c.into_items.result.items
    c.in_ok-with_nodes.with_nodes.items c.in_ok-groups.groups.items names c.in_ok-with_nodes.ensures
    c.in_ok-groups.ensures ps of in
    rw (passed_on c.from_residual-in_err-projects.result c.in_err-projects.field-0.0
    c.from_residual-in_err-projects.ensures.1 (c.in_err-projects.ensures ps stand)) refl

pub returns : goal.returns
returns c ps of =
    let names = c.into_items.ensures.value ∙ c.in_ok-names.ensures
    ∙ ap (λ fs. all_set R own [] (map (λ f. f.key) fs)) c.as_slice.ensures.value in
    let stand = projects_stand c.args.nodes.items c.args.edges.items c.into_items.result.items
    c.in_ok-with_nodes.with_nodes.items c.in_ok-groups.groups.items names c.in_ok-with_nodes.ensures
    c.in_ok-groups.ensures ps of in
    c.in_ok-of.ensures ∙ ap (all_set R project_name []) (c.in_ok-projects.ensures ps stand)
    ∙ projects_are c.args.nodes.items c.args.edges.items ps of
