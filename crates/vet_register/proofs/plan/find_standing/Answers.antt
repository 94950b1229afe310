use Rattle.std.proofs.Common.{◌≡◌, List, sym, subst, ◌∙◌}
use Rattle.vet_demand.specs.declared.pair.Pair.{Pair}
use Rattle.vet_demand.specs.DemandOf.{PoliciesAreKnown, demand_of}
use Rattle.vet_entries.specs.Facts.{Facts}
use Rattle.vet_graph.specs.Touched.{SameOutside}
use Rattle.vet_register.specs.Held.{content_of, demand_in}
use Rattle.vet_register.specs.Touches.{touched_with}
use Rattle.vet_register.proofs.plan.find_standing.Goals as goal

pub plan-requires-clause-outside : goal.plan-requires-clause-outside
plan-requires-clause-outside g c =
    subst (λ t. (old_facts : Facts) × (old_demand : List Pair) × g.K.Keeper.keeping.keeps c.args.keeper.now old_facts
    old_demand
    × SameOutside t old_facts old_demand c.args.held.now.facts.content c.args.before.now)
    (sym c.in_ok-touched.ensures.ok)
    (subst (λ d. (old_facts : Facts) × (old_demand : List Pair) × g.K.Keeper.keeping.keeps c.args.keeper.now old_facts
    old_demand
    × SameOutside (touched_with c.args.touching c.args.before.now d) old_facts old_demand
    c.args.held.now.facts.content d)
    (sym (c.requires.kept c.if-keeps.true)) c.requires.outside)

pub demand-requires : goal.demand-requires
demand-requires g c =
    record {
      known = subst (λ t. PoliciesAreKnown t c.args.held.now.policies.items) (sym c.criteria.ensures.value)
          c.requires.policies;
    }

pub plan-requires-2-clause-outside : goal.plan-requires-2-clause-outside
plan-requires-2-clause-outside g c =
    let found : c.in_ok-found.found ≡ demand_in (content_of c.args.held.now) =
    c.in_ok-found.ensures.value ∙
    (λ i. demand_of (c.items.ensures.value i) c.args.held.now.policies.items (c.criteria.ensures.value i)) in
    subst (λ t. (old_facts : Facts) × (old_demand : List Pair) × g.K.Keeper.keeping.keeps c.args.keeper.now old_facts
    old_demand
    × SameOutside t old_facts old_demand c.args.held.now.facts.content c.in_ok-found.found)
    (sym c.in_ok-touched-2.ensures.ok)
    (subst (λ d. (old_facts : Facts) × (old_demand : List Pair) × g.K.Keeper.keeping.keeps c.args.keeper.now old_facts
    old_demand
    × SameOutside (touched_with c.args.touching c.args.before.now d) old_facts old_demand
    c.args.held.now.facts.content d) (sym found) c.requires.outside)
