use Rattle.std.proofs.lemmas.List.Elements.{All-nil}
use Rattle.vet_graph.specs.Search.{may_take}
use Rattle.vet_masks.specs.Vouched.{barred_by}
use Rattle.vet_masks.proofs.search.search.Goals as goal

pub extend-requires-clause-answer : goal.extend-requires-clause-answer
extend-requires-clause-answer c = (
  barred_by c.args.barred.now,
  c.nothing-nothing.ensures.answer (barred_by c.args.barred.now) (may_take c.args.skip.now),
  All-nil _,
)
