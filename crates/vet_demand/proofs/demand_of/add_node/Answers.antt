use Rattle.std.proofs.Common.{subst, arith}
use Rattle.vet_demand.proofs.Collecting.{pair_behind, pairs_none}
use Rattle.vet_demand.specs.Collected.{AddsInOrder}
use Rattle.vet_demand.proofs.demand_of.add_node.Goals as goal

pub names-init : goal.names-init
names-init c = pairs_none c.args.node.now c.args.names.now c.args.needs.now c.args.pairs.now.items

pub names-preserved : goal.names-preserved
names-preserved c =
    pair_behind c.args.node.now c.args.names.now c.args.needs.now c.names.place c.index-names-place.result
    c.has.result c.args.pairs.now.items c.names.pairs.items c.add_pair.new.pairs.items
    c.requires c.names-test.true c.names.invariant c.index-names-place.is c.has.ensures.value
    c.in_ok-add_pair.ensures.ok

pub returns-clause-ok : goal.returns-clause-ok
returns-clause-ok c =
    subst (λ n. AddsInOrder c.args.node.now c.args.names.now c.args.needs.now n c.args.pairs.now.items
    c.names.pairs.items)
    (omega (arith, c.names-test.false, c.names.auto.place-end)) c.names.invariant
