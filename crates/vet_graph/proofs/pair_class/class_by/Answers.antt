use Rattle.std.proofs.Common.{◌≡◌, ◌∙◌, ap, sym}
use Rattle.std.proofs.lemmas.Result.{IfOk-weaker}
use Rattle.vet_base.specs.Criteria.{place_of}
use Rattle.vet_entries.specs.Condemned.{condemned_by}
use Rattle.vet_graph.specs.ClassAt.{class_at}
use Rattle.vet_graph.specs.Search.{steps_in}
use Rattle.vet_graph.specs.StandingOf.{class_of_pair}
use Rattle.vet_graph.proofs.Standings.{class_by_place}
use Rattle.vet_graph.proofs.pair_class.class_by.Goals as goal

pub returns-clause-ok : goal.returns-clause-ok
returns-clause-ok c =
    let facts = c.args.facts.now.content in
    let pair = c.args.pair.now in
    let held = c.args.found.now in
    let found = sym c.in-Some.is ∙ c.place.ensures.value ∙ ap
    (λ table. place_of table pair.criterion) c.criteria.ensures.value in
    IfOk-weaker c.class_of.result
    (λ class. class ≡ class_at (steps_in held.steps) (condemned_by held.violations.items) c.in-Some.place pair.version)
    (λ class. class ≡ class_of_pair facts pair)
    (λ class is. is ∙ class_by_place c.violations_condemn.ensures facts pair held c.in-Some.place c.requires found)
    (c.class_of.ensures.class (condemned_by held.violations.items) (
      (λ k d l. c.requires.guards k d l c.in-Some.place),
      rw c.as_slice.ensures.value at (c.condemned_by-condemned.ensures c.in-Some.place),
    ))

pub class_of-requires : goal.class_of-requires
class_of-requires c = (
  condemned_by c.args.found.now.violations.items,
  (
    (λ k d l. c.requires.guards k d l c.in-Some.place),
    rw c.as_slice.ensures.value at (c.condemned_by-condemned.ensures c.in-Some.place),
  ),
)
