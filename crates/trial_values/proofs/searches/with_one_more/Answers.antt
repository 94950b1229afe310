use Rattle.std.proofs.Common.{◌≡◌, ◌+◌, take, refl, sym, ap, ◌∙◌, subst, arith}
use Rattle.std.proofs.lemmas.List.{take-take}
use Rattle.vet_entries.specs.Step.{steps_of}
use Rattle.vet_graph.specs.Search.{may_take}
use Rattle.vet_masks.specs.Reached.{IsAnswer}
use Rattle.vet_masks.specs.Vouched.{barred_by}
use Rattle.trial_values.proofs.searches.with_one_more.Goals as goal

pub extend-requires-clause-answer : goal.extend-requires-clause-answer
extend-requires-clause-answer c =
    let n = c.args.first in
    let all = steps_of c.args.facts.now.content c.args.package.now in
    let same : take n c.over-looks.result.steps ≡ take n all =
    ap (take n) (c.over-looks.ensures.steps ∙ c.truncate.ensures.items ∙ ap (take (n + 1)) c.in_ok-steps.ensures.ok)
    ∙ take-take n (n + 1) all (omega arith) in (
      barred_by c.args.barred.now,
      subst (λ xs. IsAnswer xs (barred_by c.args.barred.now) (may_take c.args.skip.now) c.args.reached.now) (sym same)
          c.requires.answer,
      λ k d l q. refl,
    )
