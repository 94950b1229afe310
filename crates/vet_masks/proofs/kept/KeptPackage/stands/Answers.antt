use Rattle.std.proofs.Common.{◌++◌, ◌∷◌, [], map, take, sym, ap, ◌∙◌}
use Rattle.std.proofs.lemmas.List.{map-append, take_more}
use Rattle.vet_demand.specs.declared.pair.Pair.{Pair}
use Rattle.vet_graph.specs.declared.standing.Stand.{Stand}
use Rattle.vet_graph.specs.StandingOf.{class_by}
use Rattle.vet_masks.proofs.kept.KeptPackage.stands.Goals as goal

pub pairs-preserved : goal.pairs-preserved
pairs-preserved c steps condemned h =
    let pairs = c.args.pairs.now in
    let place = c.pairs.place in
    let pair = c.index-pairs-place.result in
    let f : Pair → Stand = λ p. record { pair = p; class = class_by c.args.criteria.now steps condemned p } in
    c.in_ok-push.ensures.items
    ∙ (λ i. c.pairs.invariant steps condemned h i ++ c.in_ok-stand.ensures.ok steps condemned h i ∷ [])
    ∙ sym (ap (map f) (take_more pairs place pair c.pairs-test.true
    ∙ ap (λ p. take place pairs ++ p ∷ []) (sym c.index-pairs-place.is))
    ∙ map-append f (take place pairs) (pair ∷ []))
