use Rattle.std.proofs.Common.{◌≡◌, ◌+◌, ◌++◌, ◌∷◌, ◌∙◌, [], ap, sym, take}
use Rattle.std.proofs.lemmas.List.{take_more}
use Rattle.vet_item_rows.specs.ReadProjects.{IsEdgeOf}
use Rattle.vet_item_rows.proofs.Reading.{each_at, read_more}
use Rattle.vet_item_rows.proofs.read.projects.edges_between.Goals as goal

pub returns-in_err-edge_between : goal.returns-in_err-edge_between
returns-in_err-edge_between c xs up each =
    let one = each_at (IsEdgeOf c.args.nodes.now) c.args.ends.now c.ends.pair-index c.pair-item.result xs
    c.ends-test.true c.pair-item.is each in
    cc (c.in_err-edge_between.ensures one.0 up one.1)

pub ends-preserved : goal.ends-preserved
ends-preserved c up =
    let ends = c.args.ends.now in
    let i = c.ends.pair-index in
    let pair = c.pair-item.result in
    let more : take (i + 1) ends ≡ take i ends ++ pair ∷ [] = take_more ends i pair c.ends-test.true
    ∙ ap (λ x. take i ends ++ x ∷ []) (sym c.pair-item.is) in
    rw (more, c.in_ok-push.ensures.items)
    (read_more (IsEdgeOf c.args.nodes.now) (take i ends) pair c.ends.edges.items c.in_ok-edge_between.field-0
    (c.ends.invariant up) (λ e is. cc (c.in_ok-edge_between.ensures e up is)))
