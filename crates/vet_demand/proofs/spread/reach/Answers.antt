use Rattle.std.proofs.Common.{◌≡◌, ◌∷◌, [], get_or, set, sym, ap, subst, ◌∙◌}
use Rattle.std.specs.FinSet as places
use Rattle.std.proofs.lemmas.List.{get_or_default}
use Rattle.vet_base.specs.CriteriaSet.{has}
use Rattle.vet_demand.proofs.Spreading.{Reaches-new}
use Rattle.vet_demand.specs.Spread.{Reaches}
use Rattle.vet_demand.proofs.spread.reach.Goals as goal

pub returns-clause-reaches : goal.returns-clause-reaches
returns-clause-reaches c =
    let p = c.args.place in
    let n = c.args.node in
    let sets = c.args.sets.now.items in
    let reached = c.args.reached.now.items in
    let here : c.index.result.now ≡ get_or sets n places.empty =
    c.index.ensures ∙ get_or_default sets n c.index.result.now places.empty c.requires.below in
    let again : c.index-2.result.now ≡ get_or sets n places.empty =
    c.index-2.ensures ∙ get_or_default sets n c.index-2.result.now places.empty c.requires.below in
    let fresh = ap (has p) (sym here) ∙ sym c.has.ensures.value ∙ c.if-has.false in
    subst (λ s. Reaches p (n ∷ []) sets reached (set sets n s) c.push.new.self.items)
    (sym (c.with.ensures ∙ ap (λ s. places.insert s p) again))
    (subst (λ r. Reaches p (n ∷ []) sets reached (set sets n (places.insert (get_or sets n places.empty) p)) r)
    (sym c.in_ok-push.ensures.items)
    (Reaches-new p n sets reached c.requires.below fresh))
