use Rattle.std.proofs.Common.{◌≡◌, ◌<◌, ◌++◌, ◌∷◌, ◌∙◌, List, [], get_or, length, sym, subst, arith}
use Rattle.vet_demand.specs.declared.pair.Pair.{Pair}
use Rattle.vet_register.specs.State.{demanded}
use Rattle.vet_rows.proofs.NextStanding.{next_stands}
use Rattle.vet_rows.proofs.rows_of.standing_rows.all_standing.Goals as goal
use Rattle.vet_rows.proofs.rows_of.standing_rows.all_standing.Goals.{in-Some+in_ok-standing_row+in_ok-push, in_default}

-- each pair is demanded, so it has a class, and that is its own
pub pairs-preserved : goal.pairs-preserved
pairs-preserved g c =
    let s = c.args.register.now.state in
    let i = c.pairs.pair-index in
    let p = c.pair-item.result in
    let within : i < length (demanded s) = subst (λ (ps : List Pair). i < length ps) c.demand-pair-items.ensures
    (omega (arith, c.pairs-test.true)) in
    let is : p ≡ get_or (demanded s) i p = subst (λ (ps : List Pair). p ≡ get_or ps i p) c.demand-pair-items.ensures
    c.pair-item.is in
    elim c.match-class.branch [
      | in-Some+in_ok-standing_row+in_ok-push w ↦ rw w.rows-is
          (w.in_ok-push.ensures.items ∙ (λ j. c.pairs.invariant j ++ w.in_ok-standing_row.ensures j ∷ [])
          ∙ next_stands s.held.facts (demanded s) i p w.in-Some.class within is c.each_pair_has_its_class.ensures.only
          w.in-Some.ensures.is.1)
      | in_default w ↦ absurd (w.in_default.ensures.is (i, within, sym is))
    ]
