use Rattle.std.proofs.Common.{◌<◌, ◌≤◌, ◌↔◌, arith, length, subst}
use Rattle.std.specs.List.{Contains}
use Rattle.std.proofs.lemmas.List.{take_all}
use Rattle.vet_demand.proofs.Auditing.{pairs_rise, pairs_same}
use Rattle.vet_demand.proofs.Merging.{beside-is, length-beside}
use Rattle.vet_demand.specs.Audited.{AuditedNode, IsAsked, audited_list}
use Rattle.vet_demand.proofs.demand_of.pairs_of.Goals as goal

pub nodes-preserved : goal.nodes-preserved
nodes-preserved c =
    let a = c.args.audited.now in
    let long = length-beside a.nodes.items a.needs.items c.requires.parallel in
    let low : c.nodes.place < length a.nodes.items =
    omega (arith, a.nodes.ok, c.nodes-test.true, c.len-place-end.ensures) in
    let one : AuditedNode = record { node = c.index.result.now.now; needs = c.index-in-nodes.result.now } in
    let at = beside-is a.nodes.items a.needs.items c.nodes.place c.index.result.now c.index-in-nodes.result.now
    c.requires.parallel low c.index.ensures c.index-in-nodes.ensures in
    let inside : c.nodes.place < length (audited_list a) = omega (arith, low, long) in
    record {
      in_order = pairs_rise c.args.names.now (audited_list a) c.requires.nodes c.nodes.place one inside at
          c.nodes.pairs.items c.add_node.new.pairs.items c.nodes.invariant.same c.in_ok-add_node.ensures.ok
          c.nodes.invariant.in_order;
      same = pairs_same c.args.names.now (audited_list a) c.requires.nodes c.nodes.place one inside at
          c.nodes.pairs.items c.add_node.new.pairs.items c.nodes.invariant.same c.in_ok-add_node.ensures.ok;
    }

pub returns-clause-same : goal.returns-clause-same
returns-clause-same c q =
    let a = c.args.audited.now in
    let past : length (audited_list a) ≤ c.nodes.place =
    omega (
      arith,
      a.nodes.ok,
      c.nodes-test.false,
      c.len-place-end.ensures,
      length-beside a.nodes.items a.needs.items c.requires.parallel,
    ) in
    subst (λ l. Contains c.nodes.pairs.items q ↔ IsAsked c.args.names.now l q)
    (take_all c.nodes.place (audited_list a) past) (c.nodes.invariant.same q)
