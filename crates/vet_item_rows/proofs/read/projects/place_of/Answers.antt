use Rattle.std.proofs.Common.{rules, ◌∙◌}
use Rattle.std.proofs.lemmas.Fn.{always_returns_same}
use Rattle.vet_demand.specs.declared.project.Node.{Node}
use Rattle.vet_item_rows.specs.ReadProjects.{end_of}
use Rattle.vet_item_rows.proofs.Places.{end_cmp, found_place}
use Rattle.vet_item_rows.proofs.read.projects.place_of.Goals as goal

pub returns : goal.returns
returns c up place within is =
    let end = c.args.end.now in
    let e = c.binary_search_by-found.ensures in
    let at = e.position (λ (n : Node). end_cmp (end_of n) end) (always_returns_same _ _ _ (λ a r f k. search rules)) in
    c.ok.ensures.value ∙ found_place c.args.nodes.now end up place within is c.binary_search_by-found.result e.bound at
