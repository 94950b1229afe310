use Rattle.std.proofs.Common.{ap, arith, length}
use Rattle.vet_base.proofs.Tables.{len-keys}
use Rattle.vet_demand.proofs.Flowing.{AreNeeds-spread}
use Rattle.vet_demand.specs.Spread.{lists_in}
use Rattle.vet_demand.proofs.flow.needs_of.Goals as goal

pub spread_all-requires-clause-count : goal.spread_all-requires-clause-count
spread_all-requires-clause-count c =
    omega (arith, c.requires.terms.table.few, len-keys c.args.terms.now.criteria.now, ap length c.requires.terms.names)

pub returns-clause-ok : goal.returns-clause-ok
returns-clause-ok c =
    AreNeeds-spread c.args.terms.now.policies.now.items c.args.terms.now.criteria.now c.args.project.now
    c.in_ok-flow.flow.needs.items (lists_in c.in_ok-flow.flow.onward.items) c.spread_all.new.sets.items
    c.edges.ensures.is_project.within
    (rw (c.nodes.ensures.value, c.edges.ensures.value) at c.in_ok-flow.ensures.ok)
    (rw (c.requires.terms.names, c.as_slice.ensures.value) at c.in_ok-spread_all.ensures.ok)
