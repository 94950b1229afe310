use Rattle.std.proofs.Common.{◌≡◌, ◌∙◌, ap, sym}
use Rattle.std.proofs.lemmas.Result.{IfOk-weaker}
use Rattle.vet_base.specs.Criteria.{place_of}
use Rattle.vet_entries.specs.Condemned.{condemned_by}
use Rattle.vet_graph.specs.Class.{IsClass, IsClassOfPair}
use Rattle.vet_graph.specs.Search.{steps_in}
use Rattle.vet_graph.specs.StandingOf.{class_of_pair}
use Rattle.vet_graph.proofs.Backward.{class_by_kept}
use Rattle.vet_graph.proofs.Standings.{pair_class_holds}
use Rattle.vet_graph.proofs.pair_class.class_of_pair.Goals as goal

pub class_of-requires : goal.class_of-requires
class_of-requires c = (
  condemned_by c.in_ok-held-in-Some.held.violations.items,
  (
    (λ k d l. c.in_ok-held-in-Some.ensures.steps.guards k d l c.in-Some.place),
    rw c.as_slice.ensures.value at (c.condemned_by-condemned.ensures c.in-Some.place),
  ),
)

pub returns-in_ok-held-in-Some-clause-ok : goal.returns-in_ok-held-in-Some-clause-ok
returns-in_ok-held-in-Some-clause-ok c =
    let facts = c.args.facts.now.content in
    let pair = c.args.pair.now in
    let held = c.in_ok-held-in-Some.held in
    let found = sym c.in-Some.is ∙ c.place.ensures.value ∙ ap
    (λ table. place_of table pair.criterion) c.criteria.ensures.value in
    IfOk-weaker c.class_of.result
    (IsClass (steps_in held.steps) (condemned_by held.violations.items) c.in-Some.place pair.version)
    (λ class. class ≡ class_of_pair facts pair)
    (class_by_kept c.violations_condemn.ensures facts pair held c.in-Some.place
    c.in_ok-held-in-Some.ensures.steps found)
    (c.class_of.ensures.is (condemned_by held.violations.items) (
      (λ k d l. c.in_ok-held-in-Some.ensures.steps.guards k d l c.in-Some.place),
      rw c.as_slice.ensures.value at (c.condemned_by-condemned.ensures c.in-Some.place),
    ))

pub returns-in_ok-held-in-Some-clause-is : goal.returns-in_ok-held-in-Some-clause-is
returns-in_ok-held-in-Some-clause-is c =
    let facts = c.args.facts.now.content in
    let pair = c.args.pair.now in
    IfOk-weaker c.class_of.result (λ class. class ≡ class_of_pair facts pair) (IsClassOfPair facts pair)
    (λ class e. rw e (pair_class_holds facts pair)) (returns-in_ok-held-in-Some-clause-ok c)
