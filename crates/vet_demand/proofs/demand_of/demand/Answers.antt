use Rattle.std.proofs.Common.{◌∙◌, ap, subst, sym}
use Rattle.std.specs.FinMap as map
use Rattle.vet_base.proofs.Tables.{rising_keys}
use Rattle.vet_base.specs.Criteria.{IsTable}
use Rattle.vet_base.specs.Names.{IsRising}
use Rattle.vet_demand.proofs.Auditing.{least_demand}
use Rattle.vet_demand.proofs.DemandLaws.{least_is_demand}
use Rattle.vet_demand.specs.Audited.{audited_list}
use Rattle.vet_demand.specs.DemandOf.{IsLeastDemand}
use Rattle.vet_demand.proofs.demand_of.demand.Goals as goal

pub audited_in-requires-clause-known : goal.audited_in-requires-clause-known
audited_in-requires-clause-known c = rw (c.in_ok-terms.ensures.policies, c.in_ok-terms.ensures.criteria)
    c.requires.known

pub pairs_of-requires-clause-names : goal.pairs_of-requires-clause-names
pairs_of-requires-clause-names c = subst IsRising (sym c.in_ok-terms.ensures.terms.names)
    (rising_keys c.in_ok-terms.terms.criteria.now)

pub returns-clause-least : goal.returns-clause-least
returns-clause-least c =
    let projects = c.args.projects.now in
    let policies = c.args.policies.now.items in
    let criteria = c.args.criteria.now in
    let terms = c.in_ok-terms.ensures in
    let least = least_demand projects policies criteria c.in_ok-terms.terms.names.now
    (audited_list c.in_ok-audited.audited) c.in_ok-pairs.pairs.items
    (terms.terms.names ∙ ap map.keys terms.criteria)
    (rw (terms.policies, terms.criteria) at c.in_ok-audited.ensures.ok)
    c.in_ok-pairs.ensures.in_order c.in_ok-pairs.ensures.same in
    subst (IsLeastDemand projects policies criteria) (sym c.in_order.ensures) least

pub returns-clause-value : goal.returns-clause-value
returns-clause-value c =
    let terms = c.in_ok-terms.ensures in
    least_is_demand c.args.projects.now c.args.policies.now.items c.args.criteria.now c.in_order.result
    (subst IsTable terms.criteria terms.terms.table) c.requires.known (returns-clause-least c)
