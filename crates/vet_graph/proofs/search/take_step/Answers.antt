use Rattle.std.proofs.Common.{◌∙◌, sym}
use Rattle.vet_graph.proofs.ReachedHeads.{IsReaching-next, LeadsOn-found, LeadsOn-next}
use Rattle.vet_graph.proofs.search.take_step.Goals as goal

pub returns-then-index-clause-taken : goal.returns-then-index-clause-taken
returns-then-index-clause-taken c =
    LeadsOn-found c.args.steps.now c.args.links.now c.args.terms.now c.args.reached.now.places.items
    c.args.reached.now.seen.items c.args.place c.index-head.result.now c.index.result.now
    c.requires.linked c.requires.place c.requires.reaching c.index-head.ensures c.index.ensures c.if-index.true

pub returns-clause-reaching : goal.returns-clause-reaching
returns-clause-reaching c =
    rw c.in_ok-push.ensures.items
    (IsReaching-next c.args.steps.now c.args.links.now c.args.terms.now c.args.reached.now.places.items
    c.args.reached.now.seen.items c.args.place c.index-head.result.now c.index.result.now c.index-steps-place.result
    c.requires.linked c.requires.place c.requires.stands c.index-steps-place.is
    (sym c.is_open.ensures ∙ c.if-not-is_open.false) c.requires.reaching c.index-head.ensures c.index.ensures
    c.if-index.false)

pub returns-clause-taken : goal.returns-clause-taken
returns-clause-taken c =
    rw c.in_ok-push.ensures.items
    (LeadsOn-next c.args.steps.now c.args.links.now c.args.terms.now c.args.reached.now.places.items c.args.place
    c.index-head.result.now c.requires.linked c.requires.place c.index-head.ensures)
